use Rattle.std.proofs.Common.{arith}
use Rattle.std.proofs.lemmas.Grind.{common_steps}
use Rattle.packet_filter.proofs.machine.Machine.go_on.Goals as goal

pub returns-in-Done : goal.returns-in-Done
returns-in-Done c = record { left = grind (arith, common_steps); no = grind (arith, common_steps); size = grind (arith, common_steps); yes = grind (arith, common_steps) }

pub returns-in-Foreign : goal.returns-in-Foreign
returns-in-Foreign c = record { left = grind (arith, common_steps); no = grind (arith, common_steps); size = grind (arith, common_steps); yes = grind (arith, common_steps) }

pub returns-in-More : goal.returns-in-More
returns-in-More c = record { left = grind (arith, common_steps); no = grind (arith, common_steps); size = grind (arith, common_steps); yes = grind (arith, common_steps) }
