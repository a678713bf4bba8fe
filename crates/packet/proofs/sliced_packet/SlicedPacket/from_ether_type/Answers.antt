use Rattle.packet.proofs.Frames.{after_read}
use Rattle.packet.proofs.sliced_packet.SlicedPacket.from_ether_type.Goals as goal

pub returns : goal.returns
returns c = record { reads = rw c.whole.ensures.value (after_read _ _ _ _ c.layers_after.ensures.reads.reads) }
