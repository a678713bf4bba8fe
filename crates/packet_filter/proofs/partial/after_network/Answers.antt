use Rattle.std.proofs.Common.{arith}
use Rattle.std.proofs.lemmas.Grind.{common_steps}
use Rattle.packet_filter.proofs.partial.after_network.Goals as goal

pub returns-in-Ip-Multicast : goal.returns-in-Ip-Multicast
returns-in-Ip-Multicast c = grind (arith, common_steps)

pub returns-in-Ip-Proto : goal.returns-in-Ip-Proto
returns-in-Ip-Proto c = grind (arith, common_steps)

pub returns-in_default : goal.returns-in_default
returns-in_default c = grind (arith, common_steps)

pub returns-in_default-2 : goal.returns-in_default-2
returns-in_default-2 c = grind (arith, common_steps)

pub returns-in_default-3 : goal.returns-in_default-3
returns-in_default-3 c = grind (arith, common_steps)

pub returns-in_default-Destination : goal.returns-in_default-Destination
returns-in_default-Destination c = grind (arith, common_steps)

pub returns-in_default-Host : goal.returns-in_default-Host
returns-in_default-Host c = grind (arith, common_steps)

pub returns-in_default-Net : goal.returns-in_default-Net
returns-in_default-Net c = grind (arith, common_steps)

pub returns-in_default-OpenBracket : goal.returns-in_default-OpenBracket
returns-in_default-OpenBracket c = grind (arith, common_steps)

pub returns-in_default-Source : goal.returns-in_default-Source
returns-in_default-Source c = grind (arith, common_steps)
