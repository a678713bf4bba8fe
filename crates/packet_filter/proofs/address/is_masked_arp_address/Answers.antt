use Rattle.std.proofs.Common.{arith}
use Rattle.std.proofs.lemmas.Grind.{common_steps}
use Rattle.packet_filter.proofs.address.is_masked_arp_address.Goals as goal

pub returns-then-not-is_arp_of_ipv4 : goal.returns-then-not-is_arp_of_ipv4
returns-then-not-is_arp_of_ipv4 c = grind (arith, common_steps)

pub returns : goal.returns
returns c = grind (arith, common_steps)
