use Rattle.std.proofs.Common.{arith}
use Rattle.std.proofs.lemmas.Grind.{common_steps}
use Rattle.uses.proofs.filter.udp_port.Goals as goal

pub returns-then-ne : goal.returns-then-ne
returns-then-ne c = grind (arith, common_steps)

pub returns-then-rest-lt4 : goal.returns-then-rest-lt4
returns-then-rest-lt4 c = grind (arith, common_steps)

pub returns : goal.returns
returns c = grind (arith, common_steps)
