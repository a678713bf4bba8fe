use Rattle.std.proofs.Common.{arith}
use Rattle.std.proofs.lemmas.Grind.{common_steps}
use Rattle.packet_filter.proofs.machine.Machine.step_operand.Goals as goal

pub returns-in-None-net_address_of : goal.returns-in-None-net_address_of
returns-in-None-net_address_of c = record { left = grind (arith, common_steps); no = grind (arith, common_steps); size = grind (arith, common_steps); yes = grind (arith, common_steps) }

pub returns-in-Some : goal.returns-in-Some
returns-in-Some c = record { left = grind (arith, common_steps); no = grind (arith, common_steps); size = grind (arith, common_steps); yes = grind (arith, common_steps) }

pub returns-in-Some-net_address_of : goal.returns-in-Some-net_address_of
returns-in-Some-net_address_of c = record { left = grind (arith, common_steps); no = grind (arith, common_steps); size = grind (arith, common_steps); yes = grind (arith, common_steps) }
