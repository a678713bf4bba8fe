use Rattle.std.proofs.Common.{sym}
use Rattle.etherparse.proofs.Parts.{same_append, spread}
use Rattle.etherparse_link.proofs.linux_sll2_header.joined.Goals as goal

pub returns-clause-parts : goal.returns-clause-parts
returns-clause-parts c = sym (same_append (spread c.args.front.now 12 c.requires.front_len)
    (spread c.args.address.now 8 c.requires.address_len))
