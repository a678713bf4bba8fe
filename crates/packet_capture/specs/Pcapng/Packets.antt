-- The packets of pcapng (draft-ietf-opsawg-pcapng sections 4.3 and 4.4, and appendix A).
use Rattle.std.specs.Prelude.{ℕ, ◌≡◌, ◌+◌, ◌*◌, ◌^◌, ◌<◌, ◌≤◌, List, length, min, slice_range}
use Rattle.std.specs.Prelude.{Option, Some, None, Result, Ok, Err, if◌then◌else◌, nat_eq, slice_get}
use Rattle.std.specs.Int.{w16, w32}
use Rattle.packet_capture.specs.Capture.{number_in}
use Rattle.packet_capture.specs.declared.capture.ByteOrder.{ByteOrder}
use Rattle.packet_capture.specs.declared.pcapng.blocks.BlockError.{BlockError}
use Rattle.packet_capture.specs.declared.pcapng.blocks.BlockError.TheVariants as error
use Rattle.packet_capture.specs.declared.pcapng.interfaces.Interface.{Interface}
use Rattle.packet_capture.specs.declared.pcapng.packets.PacketHead.{PacketHead}
use Rattle.packet_capture.specs.declared.pcapng.packets.PacketType.{PacketType}
use Rattle.packet_capture.specs.declared.pcapng.packets.PacketType.TheVariants.{Enhanced, Obsolete}
use Rattle.packet_capture.specs.declared.pcapng.packets.PacketType.TheVariants.{Simple}

-- where the bytes of the packet begin
abbrev pub data_start : PacketType → ℕ
data_start Enhanced = 28
data_start Simple = 12
data_start Obsolete = 28

-- the number of the interface among those of the section; a simple packet is of the first one
abbrev pub interface_id : PacketType → ByteOrder → List ℕ → ℕ
interface_id Enhanced order block = number_in order w32 (slice_range block 8 12)
interface_id Simple order block = 0
interface_id Obsolete order block = number_in order w16 (slice_range block 8 10)

-- the timestamp, whose upper 32 bits stand first; a simple packet has none
abbrev pub timestamp_at_12 : ByteOrder → List ℕ → ℕ
timestamp_at_12 order block = number_in order w32 (slice_range block 12 16) * 2 ^ 32
    + number_in order w32 (slice_range block 16 20)

abbrev pub timestamp : PacketType → ByteOrder → List ℕ → Option ℕ
timestamp Enhanced order block = Some (timestamp_at_12 order block)
timestamp Simple order block = None
timestamp Obsolete order block = Some (timestamp_at_12 order block)

-- the original length
abbrev pub original_len : PacketType → ByteOrder → List ℕ → ℕ
original_len Enhanced order block = number_in order w32 (slice_range block 24 28)
original_len Simple order block = number_in order w32 (slice_range block 8 12)
original_len Obsolete order block = number_in order w32 (slice_range block 24 28)

-- as many bytes of a packet as a snap length lets be kept, of which 0 is no limit (section 4.2)
abbrev pub snapped : ℕ → ℕ → ℕ
snapped snap_len len = if nat_eq snap_len 0 then len else min len snap_len

-- The captured length. That of a simple packet is the smaller of the original length and the snap
-- length (section 4.4).
abbrev pub captured_len : PacketType → ByteOrder → Interface → List ℕ → ℕ
captured_len Enhanced order interface block = number_in order w32 (slice_range block 20 24)
captured_len Simple order interface block =
    snapped interface.snap_len (original_len Simple order block)
captured_len Obsolete order interface block = number_in order w32 (slice_range block 20 24)

-- the head of a packet of an interface
abbrev pub packet_head : PacketType → ByteOrder → Interface → List ℕ → PacketHead
packet_head type order interface block = record {
  interface_id = interface_id type order block;
  interface = interface;
  timestamp = timestamp type order block;
  captured_len = captured_len type order interface block;
  original_len = original_len type order block;
}

-- the packet is of an interface that the section has
abbrev pub IsOfInterface : PacketType → ByteOrder → List Interface → List ℕ → Interface → Type 0
IsOfInterface type order interfaces block interface =
    slice_get interfaces (interface_id type order block) ≡ Some interface

-- The block has a packet with this head: its bytes fit in the block of this total length, which
-- follows them once more.
pub record HasPacket (type : PacketType) (order : ByteOrder) (interfaces : List Interface)
    (total_len : ℕ) (block : List ℕ) (head : PacketHead) : Type 0 where
  pub interface : IsOfInterface type order interfaces block head.interface
  pub says : head ≡ packet_head type order head.interface block
  pub fits : data_start type + head.captured_len + 4 ≤ total_len

-- the packet is of no interface of the section
pub record HasNoInterface (type : PacketType) (order : ByteOrder) (interfaces : List Interface)
    (block : List ℕ) (id count : ℕ) : Type 0 where
  pub number : id ≡ interface_id type order block
  pub among : count ≡ length interfaces
  pub none : slice_get interfaces id ≡ None

-- the packet's bytes do not fit in the block, which has this room for them
pub record HasNoRoom (type : PacketType) (order : ByteOrder) (interfaces : List Interface)
    (total_len : ℕ) (block : List ℕ) (captured room : ℕ) : Type 0 where
  pub interface : Interface
  pub described : IsOfInterface type order interfaces block interface
  pub len : captured ≡ captured_len type order interface block
  pub place : data_start type + room + 4 ≡ total_len
  pub more : room < captured

-- the head of a packet, or why it is refused
abbrev pub PacketReading : Type 0
PacketReading = Result PacketHead BlockError

-- reading the head of a packet: it is there; or its interface is not; or its bytes do not fit
abbrev pub ReadsPacket : PacketType → ByteOrder → List Interface → ℕ → List ℕ → PacketReading
    → Type 0
ReadsPacket type order interfaces total_len block (Ok head) =
    HasPacket type order interfaces total_len block head
ReadsPacket type order interfaces total_len block (Err (error.Interface id count)) =
    HasNoInterface type order interfaces block id count
ReadsPacket type order interfaces total_len block (Err (error.CapturedLength captured room)) =
    HasNoRoom type order interfaces total_len block captured room
ReadsPacket type order interfaces total_len block (Err _) = ⊥
