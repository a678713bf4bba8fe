-- Captures in either format, block by block: a block of the classic format is a record.
use Rattle.std.specs.Prelude.{ℕ, ◌≡◌, ◌%◌, ◌^◌, ◌≤◌, Bool, false, true, List, length, nat_lt}
use Rattle.std.specs.Prelude.{Option, Some, None, Result, Ok, Err, option_map}
use Rattle.std.specs.Borrow.{Bor}
use Rattle.std.specs.Result.{result_map_both}
use Rattle.packet_capture.specs.Capture.{BeginsWithFileHeader, BeginsWithRecord, ReadsFileHeader}
use Rattle.packet_capture.specs.Capture.{ReadsRecord, Recorded, magic_of, record_head}
use Rattle.packet_capture.specs.Pcapng.Blocks.{BeginsWithBlock, ReadsBlock, section_header_type}
use Rattle.packet_capture.specs.Pcapng.Blocks as blocks
use Rattle.packet_capture.specs.Pcapng.Times.{nanoseconds, seconds}
use Rattle.packet_capture.specs.declared.any.Block.{Block}
use Rattle.packet_capture.specs.declared.any.Block.TheVariants as block_of
use Rattle.packet_capture.specs.declared.any.Capture.{Capture}
use Rattle.packet_capture.specs.declared.any.Capture.TheVariants.{Pcap, Pcapng}
use Rattle.packet_capture.specs.declared.any.PacketHead.{PacketHead}
use Rattle.packet_capture.specs.declared.any.Stamp.{Stamp}
use Rattle.packet_capture.specs.declared.any.Stamp.TheVariants.{Counted, Unknown}
use Rattle.packet_capture.specs.declared.any.Stamp.TheVariants.{Recorded as RecordedAt}
use Rattle.packet_capture.specs.declared.capture.CaptureError.{CaptureError}
use Rattle.packet_capture.specs.declared.capture.FileHeader.{FileHeader}
use Rattle.packet_capture.specs.declared.capture.Resolution.TheVariants.{Microseconds, Nanoseconds}
use Rattle.packet_capture.specs.declared.pcapng.blocks.BlockError.{BlockError}
use Rattle.packet_capture.specs.declared.pcapng.blocks.BlockError.TheVariants as error
use Rattle.packet_capture.specs.declared.pcapng.blocks.Section.{Section}
use Rattle.packet_capture.specs.declared.pcapng.interfaces.Interface.{Interface}
use Rattle.packet_capture.specs.declared.pcapng.packets.PacketHead as packets
use Rattle.packet_capture.specs.declared.pcapng.times.Resolution.{Resolution}
use Rattle.packet_capture.specs.declared.pcapng.times.Resolution.TheVariants.{PowerOfTen}
use Rattle.packet_capture.specs.declared.pcapng.times.Resolution.TheVariants.{PowerOfTwo}

-- the file begins as pcapng does: with the block type of a section header
pub record IsPcapng (file : List ℕ) : Type 0 where
  pub enough : 4 ≤ length file
  pub magic : magic_of file ≡ section_header_type

-- before the first block no section has begun
pub record HasNoBlock (section : Section) : Type 0 where
  pub order : section.order ≡ None
  pub interfaces : length section.interfaces.items ≡ 0

-- a capture, and the bytes from its first block on; or why there is none
abbrev pub FrontReading : Type 0
FrontReading = Result (Capture × List ℕ) CaptureError

-- reading the front of a file: it is pcapng, all of which is blocks; or else it is read as a file
-- of the classic format, whose blocks are the records after the file header
abbrev pub ReadsFront : List ℕ → FrontReading → Type 0
ReadsFront file (Ok (Pcap header, records)) =
    (¬ IsPcapng file) × BeginsWithFileHeader file header records
ReadsFront file (Ok (Pcapng section, bytes)) =
    IsPcapng file × HasNoBlock section × (bytes ≡ file)
ReadsFront file (Err e) = (¬ IsPcapng file) × ReadsFileHeader file (Err e)

-- what a reader of a file's front returns
abbrev pub front_and_rest : Result (Capture × Bor (List ℕ)) CaptureError → FrontReading
front_and_rest r = result_map_both (λ x. (x.0, x.1.now)) (λ e. e) r

-- the time of a packet: as a record has it; by the unit and the offset of its interface; or 0
abbrev pub seconds_of : Stamp → ℕ
seconds_of (RecordedAt at fraction unit) = at
seconds_of (Counted timestamp resolution offset) = seconds resolution offset timestamp
seconds_of Unknown = 0

abbrev pub nanoseconds_of : Stamp → ℕ
nanoseconds_of (RecordedAt at fraction unit) = fraction
nanoseconds_of (Counted timestamp resolution offset) = nanoseconds resolution timestamp
nanoseconds_of Unknown = 0

-- a unit is smaller than a microsecond: a second has more than 10^6 of them, and the least power of
-- 2 above that is 2^20
abbrev pub is_below_microsecond : Resolution → Bool
is_below_microsecond (PowerOfTen power) = nat_lt 6 power
is_below_microsecond (PowerOfTwo power) = nat_lt 19 power

-- the time is counted in such a unit
abbrev pub is_fine : Stamp → Bool
is_fine (RecordedAt at fraction Microseconds) = false
is_fine (RecordedAt at fraction Nanoseconds) = true
is_fine (Counted timestamp resolution offset) = is_below_microsecond resolution
is_fine Unknown = false

-- The head of a record. The link type is the lower 16 bits of the field in the file header: bits 26
-- and 28 to 31 are about a frame check sequence, and the others above are reserved.
abbrev pub head_of_record : FileHeader → List ℕ → PacketHead
head_of_record header s = record {
  link_type = header.link_type % 2 ^ 16;
  stamp = RecordedAt (record_head header s).seconds (record_head header s).nanoseconds
      header.format.resolution;
  captured_len = (record_head header s).captured_len;
  original_len = (record_head header s).original_len;
}

-- when a packet of an interface was captured
abbrev pub stamp_on : Interface → Option ℕ → Stamp
stamp_on interface (Some timestamp) = Counted timestamp interface.resolution interface.offset
stamp_on interface None = Unknown

-- the head of a packet of pcapng
abbrev pub head_of_packet : packets.PacketHead → PacketHead
head_of_packet head = record {
  link_type = head.interface.link_type;
  stamp = stamp_on head.interface head.timestamp;
  captured_len = head.captured_len;
  original_len = head.original_len;
}

-- what a block says, apart from where its bytes lie in memory: a packet, or nothing of one
pub data Said : Type 0 where
  packet : PacketHead → List ℕ → Said
  other : Said

abbrev pub said : Block → Said
said (block_of.Packet head bytes) = packet head bytes.now
said block_of.Other = other

-- what a block of pcapng says of a packet
abbrev pub said_of : blocks.Said → Said
said_of blocks.begins_section = other
said_of (blocks.adds_interface of) = other
said_of (blocks.has_packet head bytes) = packet (head_of_packet head) bytes
said_of (blocks.is_other number) = other

-- the data begins with this record, and the rest follows
pub record BeginsWithRecordOf (header : FileHeader) (s : List ℕ) (found : Said) (rest : List ℕ)
    : Type 0 where
  pub recorded : Recorded
  pub begins : BeginsWithRecord header s recorded rest
  pub says : found ≡ packet (head_of_record header s) recorded.bytes

-- the data begins with this block of pcapng, after which the section is another one
pub record BeginsWithBlockOf (before : Section) (s : List ℕ) (after : Section) (found : Said)
    (rest : List ℕ) : Type 0 where
  pub says : blocks.Said
  pub begins : BeginsWithBlock before s after says rest
  pub of : found ≡ said_of says

-- The data begins with this block of a capture, which is then read as `after` says, and the rest
-- follows. The format of a capture stays, and so does a file header.
abbrev pub BeginsWith : Capture → List ℕ → Capture → Said → List ℕ → Type 0
BeginsWith (Pcap header) s (Pcap same) found rest =
    (same ≡ header) × BeginsWithRecordOf header s found rest
BeginsWith (Pcapng before) s (Pcapng after) found rest =
    BeginsWithBlockOf before s after found rest
BeginsWith (Pcap header) s (Pcapng after) found rest = ⊥
BeginsWith (Pcapng before) s (Pcap header) found rest = ⊥

-- the capture after the next block, what the block says, and the bytes after it; none; or why there
-- is none
abbrev pub NextReading : Type 0
NextReading = Result (Option (Capture × Said × List ℕ)) BlockError

-- why a block is refused: in the classic format it can only be cut off
abbrev pub RefusesBlock : Capture → List ℕ → BlockError → Type 0
RefusesBlock (Pcap header) s (error.CutOff e) = ReadsRecord header s (Err e)
RefusesBlock (Pcap header) s e = ⊥
RefusesBlock (Pcapng section) s e = ReadsBlock section s (Err e)

-- reading a block: it is there; or there is no more data; or it is refused
abbrev pub ReadsNext : Capture → List ℕ → NextReading → Type 0
ReadsNext capture s (Ok (Some x)) = BeginsWith capture s x.0 x.1 x.2
ReadsNext capture s (Ok None) = length s ≡ 0
ReadsNext capture s (Err e) = RefusesBlock capture s e

-- what a reader of blocks returns, with the capture after it
abbrev pub next_reading : Capture → Result (Option (Block × Bor (List ℕ))) BlockError → NextReading
next_reading after r =
    result_map_both (λ next. option_map (λ x. (after, said x.0, x.1.now)) next) (λ e. e) r
