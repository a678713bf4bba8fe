-- The blocks of a pcapng file (draft-ietf-opsawg-pcapng sections 3.1 and 4.1).
use Rattle.std.specs.Prelude.{ℕ, ◌≡◌, ◌≢◌, ◌+◌, ◌-◌, ◌%◌, ◌<◌, ◌≤◌, ◌⊎◌, List, [], ◌∷◌, ◌++◌}
use Rattle.std.specs.Prelude.{Option, Some, None, Result, Ok, Err, if◌then◌else◌, nat_eq}
use Rattle.std.specs.Prelude.{drop, length, option_map, slice_range, take}
use Rattle.std.specs.Borrow.{Bor}
use Rattle.std.specs.Int.{from_be_bytes, w16, w32}
use Rattle.std.specs.Result.{result_map_both}
use Rattle.packet_capture.specs.Capture.{IsCutOff, magic_of, number_in}
use Rattle.packet_capture.specs.Pcapng.Interfaces.{ReadsInterface}
use Rattle.packet_capture.specs.Pcapng.Packets.{ReadsPacket, data_start}
use Rattle.packet_capture.specs.declared.capture.ByteOrder.{ByteOrder}
use Rattle.packet_capture.specs.declared.capture.ByteOrder.TheVariants.{BigEndian, LittleEndian}
use Rattle.packet_capture.specs.declared.capture.CutOff as cut
use Rattle.packet_capture.specs.declared.pcapng.blocks.Block.{Block}
use Rattle.packet_capture.specs.declared.pcapng.blocks.Block.TheVariants as block_of
use Rattle.packet_capture.specs.declared.pcapng.blocks.BlockError.{BlockError}
use Rattle.packet_capture.specs.declared.pcapng.blocks.BlockError.TheVariants as error
use Rattle.packet_capture.specs.declared.pcapng.blocks.BlockHead.{BlockHead}
use Rattle.packet_capture.specs.declared.pcapng.blocks.BlockType.{BlockType}
use Rattle.packet_capture.specs.declared.pcapng.blocks.BlockType.TheVariants as type
use Rattle.packet_capture.specs.declared.pcapng.blocks.Section.{Section}
use Rattle.packet_capture.specs.declared.pcapng.interfaces.Interface.{Interface}
use Rattle.packet_capture.specs.declared.pcapng.packets.PacketHead.{PacketHead}
use Rattle.packet_capture.specs.declared.pcapng.packets.PacketType.{PacketType}
use Rattle.packet_capture.specs.declared.pcapng.packets.PacketType.TheVariants as packet

-- the block type of a section header, the same number in both byte orders (section 4.1)
abbrev pub section_header_type : ℕ
section_header_type = 0x0a0d0d0a

-- the block types by their numbers (sections 4.1 to 4.4, appendix A)
unfoldable pub block_type_of : ℕ → BlockType
block_type_of number =
    if nat_eq number 0x0a0d0d0a then type.SectionHeader
    else if nat_eq number 1 then type.InterfaceDescription
    else if nat_eq number 2 then type.Packet packet.Obsolete
    else if nat_eq number 3 then type.Packet packet.Simple
    else if nat_eq number 6 then type.Packet packet.Enhanced
    else type.Other number

-- the length of a block of a type that has nothing but its fixed fields
abbrev pub least_len : BlockType → ℕ
least_len type.SectionHeader = 28
least_len type.InterfaceDescription = 20
least_len (type.Packet of) = data_start of + 4
least_len (type.Other number) = 12

-- the byte-order magic is 1a2b3c4d; this is what its four bytes say, read with the high byte first
unfoldable pub order_told_by : ℕ → Option ByteOrder
order_told_by magic =
    if nat_eq magic 0x1a2b3c4d then Some BigEndian
    else if nat_eq magic 0x4d3c2b1a then Some LittleEndian
    else None

-- bytes 8 to 11, with the high byte first
abbrev pub byte_order_magic : List ℕ → ℕ
byte_order_magic s = from_be_bytes w32 (slice_range s 8 12)

-- the slice begins with a section header
abbrev pub IsSectionHeader : List ℕ → Type 0
IsSectionHeader s = magic_of s ≡ section_header_type

-- how many bytes tell the type and the length of the block at the front: a section header's byte
-- order stands after them
abbrev pub front_len : List ℕ → ℕ
front_len s = if nat_eq (magic_of s) section_header_type then 12 else 8

-- the byte order of the block: a section header begins a section in an order of its own; other
-- blocks have the order of their section
abbrev pub order_of : Section → List ℕ → Option ByteOrder
order_of section s =
    if nat_eq (magic_of s) section_header_type then order_told_by (byte_order_magic s)
    else section.order

-- the type and the total length
abbrev pub head_in : ByteOrder → List ℕ → BlockHead
head_in order s = record {
  order = order;
  block_type = block_type_of (number_in order w32 (slice_range s 0 4));
  total_len = number_in order w32 (slice_range s 4 8);
}

-- the slice begins with this type and total length, right or wrong
pub record HasFront (section : Section) (s : List ℕ) (head : BlockHead) : Type 0 where
  pub enough : 8 ≤ length s
  pub whole : front_len s ≤ length s
  pub order : order_of section s ≡ Some head.order
  pub says : head ≡ head_in head.order s

-- a total length is a multiple of 4, and no less than the type needs
pub record IsRightLength (head : BlockHead) : Type 0 where
  pub in_words : head.total_len % 4 ≡ 0
  pub enough : least_len head.block_type ≤ head.total_len

-- there are too few bytes for the type and the length
abbrev pub IsFrontCutOff : List ℕ → cut.CutOff → Type 0
IsFrontCutOff s e = IsCutOff 8 s e ⊎ ((8 ≤ length s) × IsCutOff (front_len s) s e)

-- no section has begun, and the slice does not begin one
pub record HasNoSection (section : Section) (s : List ℕ) (found : ℕ) : Type 0 where
  pub enough : 8 ≤ length s
  pub none : section.order ≡ None
  pub other : magic_of s ≢ section_header_type
  pub magic : found ≡ magic_of s

-- a section header's byte-order magic is another number
pub record HasOtherOrder (s : List ℕ) (found : ℕ) : Type 0 where
  pub enough : 12 ≤ length s
  pub is_section : IsSectionHeader s
  pub none : order_told_by (byte_order_magic s) ≡ None
  pub magic : found ≡ byte_order_magic s

-- the total length is wrong
pub record HasWrongLength (section : Section) (s : List ℕ) (found : BlockType) (len : ℕ)
    : Type 0 where
  pub head : BlockHead
  pub front : HasFront section s head
  pub is_type : found ≡ head.block_type
  pub is_len : len ≡ head.total_len
  pub wrong : ¬ IsRightLength head

-- the head of a block, or why there is none
abbrev pub HeadReading : Type 0
HeadReading = Result BlockHead BlockError

-- reading the head of a block: it is there; or there are too few bytes; or no section has begun; or
-- the byte-order magic is wrong; or the total length is
abbrev pub ReadsHead : Section → List ℕ → HeadReading → Type 0
ReadsHead section s (Ok head) = HasFront section s head × IsRightLength head
ReadsHead section s (Err (error.CutOff e)) = IsFrontCutOff s e
ReadsHead section s (Err (error.Magic found)) = HasNoSection section s found
ReadsHead section s (Err (error.ByteOrderMagic found)) = HasOtherOrder s found
ReadsHead section s (Err (error.BlockLength of len)) = HasWrongLength section s of len
ReadsHead section s (Err _) = ⊥

-- the total length that the last four bytes of a block repeat (section 3.1)
abbrev pub trailing_len : ByteOrder → List ℕ → ℕ
trailing_len order block =
    number_in order w32 (slice_range block (length block - 4) (length block))

-- the block is there from end to end, and ends with its length
pub record IsWhole (head : BlockHead) (s block : List ℕ) : Type 0 where
  pub enough : head.total_len ≤ length s
  pub is_block : block ≡ take head.total_len s
  pub same_len : trailing_len head.order block ≡ head.total_len

-- it ends with another length
pub record HasOtherLength (head : BlockHead) (s : List ℕ) (front back : ℕ) : Type 0 where
  pub enough : head.total_len ≤ length s
  pub is_front : front ≡ head.total_len
  pub is_back : back ≡ trailing_len head.order (take head.total_len s)
  pub other : back ≢ front

-- the bytes of a block, or why they are refused
abbrev pub WholeReading : Type 0
WholeReading = Result (List ℕ) BlockError

-- reading the bytes of a block: they are there; or there are too few; or its two lengths differ
abbrev pub ReadsWhole : BlockHead → List ℕ → WholeReading → Type 0
ReadsWhole head s (Ok block) = IsWhole head s block
ReadsWhole head s (Err (error.CutOff e)) = IsCutOff head.total_len s e
ReadsWhole head s (Err (error.Lengths front back)) = HasOtherLength head s front back
ReadsWhole head s (Err _) = ⊥

-- a section header has this version, in bytes 12 to 15
abbrev pub major : ByteOrder → List ℕ → ℕ
major order block = number_in order w16 (slice_range block 12 14)

abbrev pub minor : ByteOrder → List ℕ → ℕ
minor order block = number_in order w16 (slice_range block 14 16)

-- version 1.0 is read, and 1.2, which is the same (section 4.1)
abbrev pub IsRead : ℕ → ℕ → Type 0
IsRead major minor = (major ≡ 1) × ((minor ≡ 0) ⊎ (minor ≡ 2))

-- what a block says, apart from where its bytes lie in memory
pub data Said : Type 0 where
  begins_section : Said
  adds_interface : Interface → Said
  has_packet : PacketHead → List ℕ → Said
  is_other : ℕ → Said

abbrev pub said : Block → Said
said block_of.Section = begins_section
said (block_of.Interface of) = adds_interface of
said (block_of.Packet head bytes) = has_packet head bytes.now
said (block_of.Other number) = is_other number

-- a section without interfaces
abbrev pub new_section : ByteOrder → Section
new_section order = record { order = Some order; interfaces = record { items = [] } }

-- the section with one more interface
abbrev pub with_interface : Section → Interface → Section
with_interface section of = record section {
  interfaces = record { items = section.interfaces.items ++ of ∷ [] };
}

-- the most interfaces that a section may have
abbrev pub most_interfaces : ℕ
most_interfaces = 256

-- the section after a block, and what the block says; or why it is refused
abbrev pub BodyReading : Type 0
BodyReading = Result (Section × Said) BlockError

-- reading a section header (section 4.1): a new section begins, if the version is read
abbrev pub ReadsSection : ByteOrder → List ℕ → BodyReading → Type 0
ReadsSection order block (Ok x) = IsRead (major order block) (minor order block)
    × (x ≡ (new_section order, begins_section))
ReadsSection order block (Err e) = (¬ IsRead (major order block) (minor order block))
    × (e ≡ error.Version (major order block) (minor order block))

-- describing an interface (section 4.2): there is no room for it; or it joins the section
abbrev pub AddsInterface : Section → ByteOrder → List ℕ → BodyReading → Type 0
AddsInterface before order block (Ok x) = (length before.interfaces.items < most_interfaces)
    × ((of : Interface) × ReadsInterface order block (Ok of)
    × (x ≡ (with_interface before of, adds_interface of)))
AddsInterface before order block (Err e) =
    ((most_interfaces ≤ length before.interfaces.items) × (e ≡ error.TooManyInterfaces))
    ⊎ ((length before.interfaces.items < most_interfaces) × ReadsInterface order block (Err e))

-- a packet (sections 4.3 and 4.4, appendix A): its head, and as many bytes as were captured
abbrev pub TellsPacket : PacketType → Section → ByteOrder → List ℕ → BodyReading → Type 0
TellsPacket of before order block (Ok x) = (head : PacketHead)
    × ReadsPacket of order before.interfaces.items (length block) block (Ok head)
    × (x ≡ (
      before,
      has_packet head
          (slice_range block (data_start of) (data_start of + head.captured_len)),
    ))
TellsPacket of before order block (Err e) =
    ReadsPacket of order before.interfaces.items (length block) block (Err e)

-- what a block says, by its type; of types that are not known nothing is read
abbrev pub ReadsBody : BlockType → Section → ByteOrder → List ℕ → BodyReading → Type 0
ReadsBody type.SectionHeader before order block answer = ReadsSection order block answer
ReadsBody type.InterfaceDescription before order block answer =
    AddsInterface before order block answer
ReadsBody (type.Packet of) before order block answer = TellsPacket of before order block answer
ReadsBody (type.Other number) before order block answer = answer ≡ Ok (before, is_other number)

-- The slice begins with this block, after which the section is as `after` says, and the rest
-- follows.
pub record BeginsWithBlock (before : Section) (s : List ℕ) (after : Section) (found : Said)
    (rest : List ℕ) : Type 0 where
  pub head : BlockHead
  pub block : List ℕ
  pub front : ReadsHead before s (Ok head)
  pub whole : ReadsWhole head s (Ok block)
  pub body : ReadsBody head.block_type before head.order block (Ok (after, found))
  pub is_rest : rest ≡ drop head.total_len s

-- A block is refused: for its head; or else for its length; or else for what it says.
pub data RefusesBlock (before : Section) (s : List ℕ) : BlockError → Type 0 where
  for_head : {e : BlockError} → ReadsHead before s (Err e) → RefusesBlock before s e
  for_length : {e : BlockError} {head : BlockHead} → ReadsHead before s (Ok head)
      → ReadsWhole head s (Err e) → RefusesBlock before s e
  for_body : {e : BlockError} {head : BlockHead} {block : List ℕ} → ReadsHead before s (Ok head)
      → ReadsWhole head s (Ok block)
      → ReadsBody head.block_type before head.order block (Err e) → RefusesBlock before s e

-- the section after the next block, what the block says, and the bytes after it; none; or why the
-- block is refused
abbrev pub BlockReading : Type 0
BlockReading = Result (Option (Section × Said × List ℕ)) BlockError

-- reading a block: it is there; or there are no more bytes; or there are some, and it is refused
abbrev pub ReadsBlock : Section → List ℕ → BlockReading → Type 0
ReadsBlock before s (Ok (Some x)) = BeginsWithBlock before s x.0 x.1 x.2
ReadsBlock before s (Ok None) = length s ≡ 0
ReadsBlock before s (Err e) = (0 < length s) × RefusesBlock before s e

-- what reading the next block returns, with the section after it
abbrev pub block_reading : Section → Result (Option (Block × Bor (List ℕ))) BlockError
    → BlockReading
block_reading after r =
    result_map_both (λ next. option_map (λ x. (after, said x.0, x.1.now)) next) (λ e. e) r

-- what reading one whole block returns, with the section after it
abbrev pub body_reading : Section → Result Block BlockError → BodyReading
body_reading after r = result_map_both (λ block. (after, said block)) (λ e. e) r
