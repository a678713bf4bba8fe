use Rattle.std.proofs.Common.{arith}
use Rattle.std.proofs.lemmas.Grind.{common_steps}
use Rattle.packet_filter.proofs.partial.begin.Goals as goal

pub returns-in-Checksum : goal.returns-in-Checksum
returns-in-Checksum c = grind (arith, common_steps)

pub returns-in-Destination : goal.returns-in-Destination
returns-in-Destination c = grind (arith, common_steps)

pub returns-in-Ether : goal.returns-in-Ether
returns-in-Ether c = grind (arith, common_steps)

pub returns-in-First : goal.returns-in-First
returns-in-First c = grind (arith, common_steps)

pub returns-in-Greater : goal.returns-in-Greater
returns-in-Greater c = grind (arith, common_steps)

pub returns-in-Host : goal.returns-in-Host
returns-in-Host c = grind (arith, common_steps)

pub returns-in-Length : goal.returns-in-Length
returns-in-Length c = grind (arith, common_steps)

pub returns-in-Less : goal.returns-in-Less
returns-in-Less c = grind (arith, common_steps)

pub returns-in-Net : goal.returns-in-Net
returns-in-Net c = grind (arith, common_steps)

pub returns-in-Port : goal.returns-in-Port
returns-in-Port c = grind (arith, common_steps)

pub returns-in-Proto : goal.returns-in-Proto
returns-in-Proto c = grind (arith, common_steps)

pub returns-in-Source : goal.returns-in-Source
returns-in-Source c = grind (arith, common_steps)

pub returns-in_default : goal.returns-in_default
returns-in_default c = grind (arith, common_steps)
