use Rattle.std.proofs.Common.{rules}
use Rattle.packet.proofs.Frames.{lax_frame_read}
use Rattle.packet.proofs.lax_sliced_packet.frame_layers.Goals as goal

pub returns-in-Ok : goal.returns-in-Ok
returns-in-Ok c = record { reads = lax_frame_read _ _ _ (search rules) }
