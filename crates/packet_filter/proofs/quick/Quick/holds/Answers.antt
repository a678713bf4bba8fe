use Rattle.std.proofs.Common.{arith}
use Rattle.std.proofs.lemmas.Grind.{common_steps}
use Rattle.packet_filter.proofs.quick.Quick.holds.Goals as goal

pub returns-in-Host : goal.returns-in-Host
returns-in-Host c = record { value = rw c.in-Host.is c.has_either.ensures.value }

pub returns-in-Masked : goal.returns-in-Masked
returns-in-Masked c = record { value = rw c.in-Masked.is c.has_masked_address.ensures.value }

pub returns-in-Destination : goal.returns-in-Destination
returns-in-Destination c = record { value = rw c.in-Destination.is c.has_destination.ensures.value }

pub returns-in-IpByte : goal.returns-in-IpByte
returns-in-IpByte c = record { value = rw c.in-IpByte.is c.has_byte.ensures.value }

pub returns-in-Length : goal.returns-in-Length
returns-in-Length c = record { value = rw c.in-Length.is c.compares.ensures.value }

pub returns-in-None : goal.returns-in-None
returns-in-None c = grind (arith, common_steps)

pub returns-in-Other : goal.returns-in-Other
returns-in-Other c = record { value = rw c.in-Other.is c.other_holds.ensures.value }

pub returns-in-PayloadByte : goal.returns-in-PayloadByte
returns-in-PayloadByte c = record { value = rw c.in-PayloadByte.is c.has_byte-in-PayloadByte.ensures.value }

pub returns-in-Proto : goal.returns-in-Proto
returns-in-Proto c = record { value = rw c.in-Proto.is c.has_proto.ensures.value }

pub returns-in-Some : goal.returns-in-Some
returns-in-Some c = grind (arith, common_steps)

pub returns-in-Source : goal.returns-in-Source
returns-in-Source c = record { value = rw c.in-Source.is c.has_source.ensures.value }

pub returns-in-Version : goal.returns-in-Version
returns-in-Version c = record { value = rw c.in-Version.is c.is_ip.ensures.value }
