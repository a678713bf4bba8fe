use Rattle.std.proofs.Common.{arith}
use Rattle.uses.proofs.filter.is_ipv4_marked_for.Goals as goal

pub returns-clause-header : goal.returns-clause-header
returns-clause-header c = λ h r b. grind (arith, c.from_slice.ensures.shows h r b)
