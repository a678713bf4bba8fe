use Rattle.std.proofs.Common.{arith, refl}
use Rattle.packet_reassembly.proofs.FirstHeaders.{whole_has}
use Rattle.packet_reassembly.proofs.ip_defrag_pool.IpDefragSlot.write_packet.Goals as goal

pub returns-in-Some-clause-some : goal.returns-in-Some-clause-some
returns-in-Some-clause-some c = λ has datagram whole. grind (arith, whole_has c.args.self.now datagram has c.args.self.now.buf refl whole, c.write_packet.ensures.none)
