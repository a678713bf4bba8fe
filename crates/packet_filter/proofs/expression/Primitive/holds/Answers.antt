use Rattle.std.proofs.Common.{arith}
use Rattle.std.proofs.lemmas.Grind.{common_steps}
use Rattle.packet_filter.proofs.expression.Primitive.holds.Goals as goal

pub returns-then-is_of-2 : goal.returns-then-is_of-2
returns-then-is_of-2 c =
    let of_network = c.is_of-in-Masked.ensures.value in
    let address = c.has_masked_address.ensures.value in
    record { value = rw c.in-Masked.is (λ h. (of_network.0 c.if-is_of-2.true, address.0 h), λ h. address.1 h.1) }

pub returns-else-is_of : goal.returns-else-is_of
returns-else-is_of c = grind (arith, common_steps)

pub returns-else-is_of-2 : goal.returns-else-is_of-2
returns-else-is_of-2 c = grind (arith, common_steps)

pub returns-in-Compare : goal.returns-in-Compare
returns-in-Compare c = grind (arith, common_steps)

pub returns-in-EtherType : goal.returns-in-EtherType
returns-in-EtherType c = grind (arith, common_steps)

pub returns-in-Hardware : goal.returns-in-Hardware
returns-in-Hardware c = grind (arith, common_steps)

pub returns-in-None : goal.returns-in-None
returns-in-None c = grind (arith, common_steps)

pub returns-in-None-net : goal.returns-in-None-net
returns-in-None-net c = grind (arith, common_steps)

pub returns-in-None-net-2 : goal.returns-in-None-net-2
returns-in-None-net-2 c = grind (arith, common_steps)

pub returns-in-Proto : goal.returns-in-Proto
returns-in-Proto c = grind (arith, common_steps)

pub returns-in-Some : goal.returns-in-Some
returns-in-Some c = grind (arith, common_steps)

pub returns-in-Some-net : goal.returns-in-Some-net
returns-in-Some-net c = grind (arith, common_steps)

pub returns-in-Version : goal.returns-in-Version
returns-in-Version c = grind (arith, common_steps)

pub returns-in-Vlan : goal.returns-in-Vlan
returns-in-Vlan c = grind (arith, common_steps)

pub returns-in-WrongChecksum : goal.returns-in-WrongChecksum
returns-in-WrongChecksum c = grind (arith, common_steps)

pub returns-then-is_of : goal.returns-then-is_of
returns-then-is_of c = grind (arith, common_steps)
