use Rattle.std.proofs.Common.{arith}
use Rattle.std.proofs.lemmas.Grind.{common_steps}
use Rattle.packet_filter.proofs.machine.Machine.complete.Goals as goal

pub returns-in-Some-Open : goal.returns-in-Some-Open
returns-in-Some-Open c = record { none = grind (arith, common_steps); size = grind (arith, common_steps); state = grind (arith, common_steps) }

pub returns-in-Some-Operator : goal.returns-in-Some-Operator
returns-in-Some-Operator c = record { none = grind (arith, common_steps); size = grind (arith, common_steps); state = grind (arith, common_steps) }

pub returns-then-is_open : goal.returns-then-is_open
returns-then-is_open c = record { none = grind (arith, common_steps); size = grind (arith, common_steps); state = grind (arith, common_steps) }
