-- A frame is no longer than its block.
use Rattle.std.proofs.Common.{ℕ, ◌≤◌, List, length, slice_range, ap, arith, length-drop, length-take, Ok}
use Rattle.packet_capture.specs.Any.{BeginsWith, Said, said_of}
use Rattle.packet_capture.specs.Capture.{record_len}
use Rattle.packet_capture.specs.Pcapng.Blocks.{ReadsBody}
use Rattle.packet_capture.specs.Pcapng.Blocks as blocks
use Rattle.packet_capture.specs.declared.any.Capture.{Capture}
use Rattle.packet_capture.specs.declared.any.Capture.TheVariants.{Pcap, Pcapng}
use Rattle.packet_capture.specs.declared.capture.ByteOrder.{ByteOrder}
use Rattle.packet_capture.specs.declared.pcapng.blocks.BlockType.{BlockType}
use Rattle.packet_capture.specs.declared.pcapng.blocks.BlockType.TheVariants as type
use Rattle.packet_capture.specs.declared.pcapng.blocks.Section.{Section}
use Rattle.ipcap.specs.Private.Progress.{IsShort}

slice_short : (s : List ℕ) (i j : ℕ) → length (slice_range s i j) ≤ length s
slice_short s i j = grind (arith, length-take, length-drop)

body_short : (of : BlockType) (before : Section) (order : ByteOrder) (block : List ℕ) (after : Section) (found : blocks.Said) → length block ≤ 327680 → ReadsBody of before order block (Ok (after, found)) → IsShort (said_of found)
body_short of before order block after blocks.begins_section room b = tt
body_short of before order block after (blocks.adds_interface interface) room b = tt
body_short of before order block after (blocks.is_other number) room b = tt
body_short type.SectionHeader before order block after (blocks.has_packet head bytes) room b = grind arith
body_short type.InterfaceDescription before order block after (blocks.has_packet head bytes) room b = grind arith
body_short (type.Other number) before order block after (blocks.has_packet head bytes) room b = grind arith
body_short (type.Packet of) before order block after (blocks.has_packet head bytes) room b = grind (arith, slice_short)

pub frame_short : (capture : Capture) (s : List ℕ) (after : Capture) (of : Said) (rest : List ℕ) → length s ≤ 327680 → BeginsWith capture s after of rest → IsShort of
frame_short (Pcap header) s (Pcap same) of rest room b = rw b.1.says (omega (arith, room, ap length b.1.begins.bytes, slice_short s 16 (record_len header s)))
frame_short (Pcapng before) s (Pcapng after) of rest room b =
    let begins = b.begins in
    let within : length begins.block ≤ 327680 = omega (arith, room, ap length begins.whole.is_block, length-take begins.head.total_len s) in
    rw b.of (body_short begins.head.block_type before begins.head.order begins.block after b.says within begins.body)
frame_short (Pcap header) s (Pcapng after) of rest room b = absurd b
frame_short (Pcapng before) s (Pcap header) of rest room b = absurd b
