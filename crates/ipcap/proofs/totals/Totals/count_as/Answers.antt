use Rattle.std.proofs.Common.{arith}
use Rattle.std.proofs.lemmas.Grind.{common_steps}
use Rattle.ipcap.proofs.totals.Totals.count_as.Goals as goal

pub returns-in-Ipv4 : goal.returns-in-Ipv4
returns-in-Ipv4 c = record { counted = grind (arith, common_steps); full = grind (arith, common_steps); kept = grind (arith, common_steps) }

pub returns-in-Ipv6 : goal.returns-in-Ipv6
returns-in-Ipv6 c = record { counted = grind (arith, common_steps); full = grind (arith, common_steps); kept = grind (arith, common_steps) }

pub returns-in-Other : goal.returns-in-Other
returns-in-Other c = record { counted = grind (arith, common_steps); full = grind (arith, common_steps); kept = grind (arith, common_steps) }

pub returns-in-Refused : goal.returns-in-Refused
returns-in-Refused c = record { counted = grind (arith, common_steps); full = grind (arith, common_steps); kept = grind (arith, common_steps) }

pub returns-in-Skipped : goal.returns-in-Skipped
returns-in-Skipped c = record { counted = grind (arith, common_steps); full = grind (arith, common_steps); kept = grind (arith, common_steps) }
