use Rattle.std.proofs.Common.{arith}
use Rattle.std.proofs.lemmas.Grind.{common_steps}
use Rattle.packet_filter.proofs.quick.has_front_in_arp.Goals as goal

pub returns : goal.returns
returns c = grind (arith, common_steps)

pub returns-then-not-is_arp_of_ipv4 : goal.returns-then-not-is_arp_of_ipv4
returns-then-not-is_arp_of_ipv4 c = grind (arith, common_steps)
