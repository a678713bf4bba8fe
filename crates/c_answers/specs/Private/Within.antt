-- That the parts of a frame are within it, so that their places are numbers that fit. No public
-- clause cites it.
use Rattle.std.specs.Prelude.{ℕ, ◌≤◌, IfSome, length}
use Rattle.packet.specs.declared.sliced_packet.SlicedPacket.{SlicedPacket}
use Rattle.packet_parts.specs.IpSlice.{header_len_of}

-- the payload of the link is within the frame, and the headers of an IP packet within that payload
pub record ArePartsWithin (frame_len : ℕ) (packet : SlicedPacket) : Type 0 where
  pub payload : length packet.payload.now ≤ frame_len
  pub headers : IfSome packet.net (λ ip. header_len_of ip ≤ length packet.payload.now)
