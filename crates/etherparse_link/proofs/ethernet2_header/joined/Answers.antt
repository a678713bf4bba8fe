use Rattle.std.proofs.Common.{sym}
use Rattle.etherparse.proofs.Parts.{same_append, spread}
use Rattle.etherparse_link.proofs.ethernet2_header.joined.Goals as goal

pub returns-clause-parts : goal.returns-clause-parts
returns-clause-parts c = sym (same_append
    (spread c.args.destination.now 6 c.requires.destination_len)
    (same_append (spread c.args.source.now 6 c.requires.source_len)
    (spread c.args.ether_type.now 2 c.requires.ether_type_len)))
