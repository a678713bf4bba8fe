use Rattle.std.proofs.Common.{sym}
use Rattle.etherparse.proofs.Parts.{same_append, spread}
use Rattle.etherparse_link.proofs.linux_sll_header.joined.Goals as goal

pub returns-clause-parts : goal.returns-clause-parts
returns-clause-parts c = sym (same_append
    (spread c.args.front.now 6 c.requires.front_len)
    (same_append (spread c.args.address.now 8 c.requires.address_len)
    (spread c.args.protocol_type.now 2 c.requires.protocol_type_len)))
