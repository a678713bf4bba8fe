use Rattle.std.proofs.Common.{rules}
use Rattle.uses.proofs.forward.ipv4_next_hop.Goals as goal

pub returns-clause-next : goal.returns-clause-next
returns-clause-next c = search (rules, c.in_ok-header.ensures.reads.reads, c.if-header-le1.false, c.to_bytes.ensures.layout, c.to_bytes.ensures.read_again)
