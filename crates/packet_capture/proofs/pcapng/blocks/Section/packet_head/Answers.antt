use Rattle.packet_capture.specs.Pcapng.Packets.{ReadsPacket}
use Rattle.packet_capture.proofs.Once.{packet_once}
use Rattle.packet_capture.proofs.pcapng.blocks.Section.packet_head.Goals as goal

pub returns : goal.returns
returns c =
    let reads : ReadsPacket c.args.packet_type c.args.head.now.order c.args.self.now.interfaces.items c.args.head.now.total_len c.args.slice.now c.head_of.result = rw c.as_slice-interfaces.ensures.value at c.head_of.ensures.reads in
    record { reads = reads; only = λ other o. packet_once _ _ _ _ _ _ other reads o }
