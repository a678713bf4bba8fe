use Rattle.std.proofs.Common.{Some}
use Rattle.c_answers.proofs.Within.{of_bytes}
use Rattle.c_answers.proofs.frame.lax_from_ether_type.Goals as goal

pub packet_of-requires-clause-within : goal.packet_of-requires-clause-within
packet_of-requires-clause-within c = of_bytes (Some c.args.ether_type) c.args.bytes.now _ _ c.layers_after-packet.ensures.reads.reads
