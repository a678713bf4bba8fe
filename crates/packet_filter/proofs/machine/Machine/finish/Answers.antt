use Rattle.std.proofs.Common.{arith}
use Rattle.std.proofs.lemmas.Grind.{common_steps}
use Rattle.packet_filter.proofs.machine.Machine.finish.Goals as goal

pub returns-in-Mask : goal.returns-in-Mask
returns-in-Mask c = record { left = grind (arith, common_steps); no = grind (arith, common_steps); yes = grind (arith, common_steps) }

pub returns-in-Net : goal.returns-in-Net
returns-in-Net c = record { left = grind (arith, common_steps); no = grind (arith, common_steps); yes = grind (arith, common_steps) }

pub returns-in-None : goal.returns-in-None
returns-in-None c = record { left = grind (arith, common_steps); no = grind (arith, common_steps); yes = grind (arith, common_steps) }

pub returns-in-Operand : goal.returns-in-Operand
returns-in-Operand c = record { left = grind (arith, common_steps); no = grind (arith, common_steps); yes = grind (arith, common_steps) }

pub returns-in-Operator : goal.returns-in-Operator
returns-in-Operator c = record { left = grind (arith, common_steps); no = grind (arith, common_steps); yes = grind (arith, common_steps) }

pub returns-in-Some : goal.returns-in-Some
returns-in-Some c = record { left = grind (arith, common_steps); no = grind (arith, common_steps); yes = grind (arith, common_steps) }
