use Rattle.std.proofs.Common.{rules}
use Rattle.packet.proofs.Frames.{lax_after_read}
use Rattle.packet.proofs.lax_sliced_packet.layers_after.Goals as goal

pub returns : goal.returns
returns c = record { reads = lax_after_read _ _ _ (search rules) }
