use Rattle.std.proofs.Common.{arith}
use Rattle.std.proofs.lemmas.Grind.{common_steps}
use Rattle.packet_filter.proofs.partial.after_transport.Goals as goal

pub returns-in-Destination : goal.returns-in-Destination
returns-in-Destination c = grind (arith, common_steps)

pub returns-in-OpenBracket : goal.returns-in-OpenBracket
returns-in-OpenBracket c = grind (arith, common_steps)

pub returns-in-Port : goal.returns-in-Port
returns-in-Port c = grind (arith, common_steps)

pub returns-in-Source : goal.returns-in-Source
returns-in-Source c = grind (arith, common_steps)

pub returns-in_default : goal.returns-in_default
returns-in_default c = grind (arith, common_steps)
