use Rattle.std.proofs.Common.{arith}
use Rattle.std.proofs.lemmas.Grind.{common_steps}
use Rattle.uses.proofs.compare.is_same_ipv6_error.Goals as goal

pub returns : goal.returns
returns c = grind (arith, common_steps)
