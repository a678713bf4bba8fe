use Rattle.std.proofs.Common.{arith}
use Rattle.std.proofs.lemmas.Grind.{common_steps}
use Rattle.ipcap.proofs.totals.Totals.count.Goals as goal

pub returns : goal.returns
returns c = record { counted = grind (arith, common_steps); full = grind (arith, common_steps); kept = grind (arith, common_steps) }

pub returns-in_default : goal.returns-in_default
returns-in_default c = record { counted = grind (arith, common_steps); full = grind (arith, common_steps); kept = grind (arith, common_steps) }

pub returns-in_default-2 : goal.returns-in_default-2
returns-in_default-2 c = record { counted = grind (arith, common_steps); full = grind (arith, common_steps); kept = grind (arith, common_steps) }

pub returns-in_default-3 : goal.returns-in_default-3
returns-in_default-3 c = record { counted = grind (arith, common_steps); full = grind (arith, common_steps); kept = grind (arith, common_steps) }

pub returns-in_default-4 : goal.returns-in_default-4
returns-in_default-4 c = record { counted = grind (arith, common_steps); full = grind (arith, common_steps); kept = grind (arith, common_steps) }

pub returns-then-not-count_as : goal.returns-then-not-count_as
returns-then-not-count_as c = record { counted = grind (arith, common_steps); full = grind (arith, common_steps); kept = grind (arith, common_steps) }
