-- What the front of a block says, whether or not the rest of the block is there.
use Rattle.std.specs.Prelude.{ℕ, ◌≡◌, ◌≢◌, List, MatchOption, Option, Some, None}
use Rattle.std.specs.Prelude.{Result, Ok, Err}
use Rattle.std.specs.Int.{w32}
use Rattle.packet_capture.specs.Any.{head_of_packet, head_of_record}
use Rattle.packet_capture.specs.Capture.{number_in, record_len}
use Rattle.packet_capture.specs.Pcapng.Blocks.{ReadsHead}
use Rattle.packet_capture.specs.Pcapng.Packets.{ReadsPacket}
use Rattle.packet_capture.specs.declared.any.Capture.{Capture}
use Rattle.packet_capture.specs.declared.any.Capture.TheVariants.{Pcap, Pcapng}
use Rattle.packet_capture.specs.declared.capture.FileHeader.{FileHeader}
use Rattle.packet_capture.specs.declared.skip.BlockFront.{BlockFront}
use Rattle.packet_capture.specs.declared.skip.Content.{Content}
use Rattle.packet_capture.specs.declared.skip.Content.TheVariants as content
use Rattle.packet_capture.specs.declared.pcapng.blocks.BlockError.{BlockError}
use Rattle.packet_capture.specs.declared.pcapng.blocks.BlockError.TheVariants as error
use Rattle.packet_capture.specs.declared.pcapng.blocks.BlockHead.{BlockHead}
use Rattle.packet_capture.specs.declared.pcapng.blocks.BlockType.{BlockType}
use Rattle.packet_capture.specs.declared.pcapng.blocks.BlockType.TheVariants as type
use Rattle.packet_capture.specs.declared.pcapng.blocks.Section.{Section}
use Rattle.packet_capture.specs.declared.pcapng.packets.PacketHead as packets
use Rattle.packet_capture.specs.declared.pcapng.packets.PacketType.{PacketType}

-- how many bytes of a block are told of here: the head of a record; or all that stands before the
-- bytes of a packet
abbrev pub front_len : Capture → ℕ
front_len (Pcap header) = 16
front_len (Pcapng section) = 28

-- the head of a record, and how long the record is
abbrev pub front_of_record : FileHeader → List ℕ → BlockFront
front_of_record header s = record {
  content = content.Packet (head_of_record header s);
  len = record_len header s;
  head = None;
}

-- the block has a packet with this head, or one that is refused
abbrev pub SaysPacket : PacketType → Section → BlockHead → List ℕ → Content → Type 0
SaysPacket of section head s (content.Packet packet) = (said : packets.PacketHead)
    × ReadsPacket of head.order section.interfaces.items head.total_len s (Ok said)
    × (packet ≡ head_of_packet said)
SaysPacket of section head s (content.Refused e) =
    ReadsPacket of head.order section.interfaces.items head.total_len s (Err e)
SaysPacket of section head s _ = ⊥

-- what a block of pcapng holds, by its type
abbrev pub SaysContent : BlockType → Section → BlockHead → List ℕ → Content → Type 0
SaysContent type.SectionHeader section head s found = found ≡ content.Description
SaysContent type.InterfaceDescription section head s found = found ≡ content.Description
SaysContent (type.Packet of) section head s found = SaysPacket of section head s found
SaysContent (type.Other number) section head s found = found ≡ content.Other

-- the front of a block of pcapng
pub record HasFrontOf (section : Section) (s : List ℕ) (front : BlockFront) : Type 0 where
  pub head : BlockHead
  pub reads : ReadsHead section s (Ok head)
  pub is_head : front.head ≡ Some head
  pub is_len : front.len ≡ head.total_len
  pub says : SaysContent head.block_type section head s front.content

-- the front of a block, or why it is refused
abbrev pub BlockFrontReading : Type 0
BlockFrontReading = Result BlockFront BlockError

-- the data begins with a block that has this front
abbrev pub HasBlockFront : Capture → List ℕ → BlockFront → Type 0
HasBlockFront (Pcap header) s front = front ≡ front_of_record header s
HasBlockFront (Pcapng section) s front = HasFrontOf section s front

-- reading it from data with as many bytes: it is there; or in pcapng the head is refused
abbrev pub ReadsBlockFront : Capture → List ℕ → BlockFrontReading → Type 0
ReadsBlockFront capture s (Ok front) = HasBlockFront capture s front
ReadsBlockFront (Pcapng section) s (Err e) = ReadsHead section s (Err e)
ReadsBlockFront (Pcap header) s (Err e) = ⊥

-- the last four bytes of a block of pcapng repeat its length
abbrev pub EndsRight : Option BlockHead → List ℕ → Type 0
EndsRight head last =
    MatchOption head (Unit {0}) (λ of. number_in of.order w32 last ≡ of.total_len)

-- they are another length
abbrev pub HasOtherEnd : Option BlockHead → List ℕ → BlockError → Type 0
HasOtherEnd head last e = MatchOption head ⊥ (λ of. (number_in of.order w32 last ≢ of.total_len)
    × (e ≡ error.Lengths of.total_len (number_in of.order w32 last)))

-- the block says nothing that the blocks after it are read by, and it is not refused
abbrev pub CanBeSkipped : Content → Type 0
CanBeSkipped (content.Packet head) = Unit {0}
CanBeSkipped (content.Refused e) = ⊥
CanBeSkipped content.Description = ⊥
CanBeSkipped content.Other = Unit {0}
