use Rattle.etherparse.proofs.Fronts.{begins_with_front}
use Rattle.packet.specs.Transport.{IsIcmpLayout}
use Rattle.packet.proofs.transport.icmp.Goals as goal

pub returns : goal.returns
returns c = record { reads = begins_with_front IsIcmpLayout 4 _ _ c.icmp_header_of.ensures.layout }
