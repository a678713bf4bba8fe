use Rattle.std.proofs.Common.{sym}
use Rattle.etherparse.proofs.Parts.{same_append, spread}
use Rattle.etherparse.proofs.net.ipv6_header.front_and_addresses.Goals as goal

pub returns-clause-parts : goal.returns-clause-parts
returns-clause-parts c = sym (same_append
    (spread c.args.front.now 8 c.requires.front_len)
    (same_append (spread c.args.source.now 16 c.requires.source_len)
    (spread c.args.destination.now 16 c.requires.destination_len)))
