use Rattle.std.proofs.Common.{arith}
use Rattle.std.proofs.lemmas.Grind.{common_steps}
use Rattle.packet_filter.proofs.machine.Machine.step_after.Goals as goal

pub returns-in-Operand : goal.returns-in-Operand
returns-in-Operand c = grind (arith, common_steps)

pub returns-in-Operator : goal.returns-in-Operator
returns-in-Operator c = record { left = grind (arith, common_steps); no = grind (arith, common_steps); size = grind (arith, common_steps); yes = grind (arith, common_steps) }
