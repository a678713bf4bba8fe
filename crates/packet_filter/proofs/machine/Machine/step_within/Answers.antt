use Rattle.std.proofs.Common.{arith}
use Rattle.std.proofs.lemmas.Grind.{common_steps}
use Rattle.packet_filter.proofs.machine.Machine.step_within.Goals as goal

pub returns-in-None : goal.returns-in-None
returns-in-None c = record { left = grind (arith, common_steps); no = grind (arith, common_steps); size = grind (arith, common_steps); yes = grind (arith, common_steps) }

pub returns-in-Some : goal.returns-in-Some
returns-in-Some c = record { left = grind (arith, common_steps); no = grind (arith, common_steps); size = grind (arith, common_steps); yes = grind (arith, common_steps) }

pub returns-in-Some-net_address_of : goal.returns-in-Some-net_address_of
returns-in-Some-net_address_of c = record { left = grind (arith, common_steps); no = grind (arith, common_steps); size = grind (arith, common_steps); yes = grind (arith, common_steps) }

pub returns-in-Some-whole : goal.returns-in-Some-whole
returns-in-Some-whole c = record { left = grind (arith, common_steps); no = grind (arith, common_steps); size = grind (arith, common_steps); yes = grind (arith, common_steps) }

pub returns-in_default-next : goal.returns-in_default-next
returns-in_default-next c = grind (arith, common_steps)

pub returns-then-closes_term : goal.returns-then-closes_term
returns-then-closes_term c = record { left = grind (arith, common_steps); no = grind (arith, common_steps); size = grind (arith, common_steps); yes = grind (arith, common_steps) }
