-- A capture file in the classic format of libpcap (draft-ietf-opsawg-pcap sections 4 and 5).
use Rattle.std.specs.Prelude.{ℕ, ◌≡◌, ◌≢◌, ◌+◌, ◌*◌, ◌<◌, ◌≤◌, ◌⊎◌, List, length, drop, slice_range}
use Rattle.std.specs.Prelude.{Option, Some, None, Result, Ok, Err, if◌then◌else◌, nat_eq}
use Rattle.std.specs.Prelude.{option_map}
use Rattle.std.specs.Borrow.{Bor}
use Rattle.std.specs.Int.{Width, from_be_bytes, from_le_bytes, w16, w32}
use Rattle.std.specs.Result.{result_map_both}
use Rattle.packet_capture.specs.declared.capture.ByteOrder.{ByteOrder}
use Rattle.packet_capture.specs.declared.capture.ByteOrder.TheVariants.{BigEndian, LittleEndian}
use Rattle.packet_capture.specs.declared.capture.CaptureError.{CaptureError}
use Rattle.packet_capture.specs.declared.capture.CaptureError.TheVariants as error
use Rattle.packet_capture.specs.declared.capture.CutOff.{CutOff}
use Rattle.packet_capture.specs.declared.capture.FileHeader.{FileHeader}
use Rattle.packet_capture.specs.declared.capture.Format.{Format}
use Rattle.packet_capture.specs.declared.capture.Record.{Record}
use Rattle.packet_capture.specs.declared.capture.RecordHead.{RecordHead}
use Rattle.packet_capture.specs.declared.capture.Resolution.{Resolution}
use Rattle.packet_capture.specs.declared.capture.Resolution.TheVariants.{Microseconds, Nanoseconds}

-- a number of the file, in the file's byte order
abbrev pub number_in : ByteOrder → Width → List ℕ → ℕ
number_in BigEndian width bytes = from_be_bytes width bytes
number_in LittleEndian width bytes = from_le_bytes width bytes

-- the format with a byte order and a resolution
abbrev pub format_in : ByteOrder → Resolution → Format
format_in order resolution = record { order = order; resolution = resolution }

-- The magic number is a1b2c3d4 if fractions of a second are microseconds, a1b23c4d if they are
-- nanoseconds. The byte order in which it is written is that of all numbers. This is what the first
-- four bytes say, read with the high byte first.
unfoldable pub told_by : ℕ → Option Format
told_by magic =
    if nat_eq magic 0xa1b2c3d4 then Some (format_in BigEndian Microseconds)
    else if nat_eq magic 0xa1b23c4d then Some (format_in BigEndian Nanoseconds)
    else if nat_eq magic 0xd4c3b2a1 then Some (format_in LittleEndian Microseconds)
    else if nat_eq magic 0x4d3cb2a1 then Some (format_in LittleEndian Nanoseconds)
    else None

-- the first four bytes, with the high byte first
abbrev pub magic_of : List ℕ → ℕ
magic_of s = from_be_bytes w32 (slice_range s 0 4)

-- how many nanoseconds a fraction of a second counts
abbrev pub nanoseconds_in : Resolution → ℕ
nanoseconds_in Microseconds = 1000
nanoseconds_in Nanoseconds = 1

-- there are fewer bytes than required
pub record IsCutOff (required : ℕ) (s : List ℕ) (e : CutOff) : Type 0 where
  pub short : length s < required
  pub error : e ≡ record { required_len = required; len = length s }

-- The file begins with this header of 24 bytes, and the rest follows: the magic number; version
-- 2.4; eight bytes that say nothing; the snap length; the link type.
pub record BeginsWithFileHeader (file : List ℕ) (header : FileHeader) (rest : List ℕ)
    : Type 0 where
  pub enough : 24 ≤ length file
  pub magic : told_by (magic_of file) ≡ Some header.format
  pub major : number_in header.format.order w16 (slice_range file 4 6) ≡ 2
  pub minor : number_in header.format.order w16 (slice_range file 6 8) ≡ 4
  pub snap_len : header.snap_len ≡ number_in header.format.order w32 (slice_range file 16 20)
  pub link_type : header.link_type ≡ number_in header.format.order w32 (slice_range file 20 24)
  pub after : rest ≡ drop 24 file

-- the magic number is another one
pub record HasOtherMagic (file : List ℕ) (found : ℕ) : Type 0 where
  pub enough : 24 ≤ length file
  pub none : told_by (magic_of file) ≡ None
  pub magic : found ≡ magic_of file

-- the magic number is right, and the version is another one
pub record HasOtherVersion (file : List ℕ) (found_major found_minor : ℕ) : Type 0 where
  pub enough : 24 ≤ length file
  pub format : Format
  pub magic : told_by (magic_of file) ≡ Some format
  pub major : found_major ≡ number_in format.order w16 (slice_range file 4 6)
  pub minor : found_minor ≡ number_in format.order w16 (slice_range file 6 8)
  pub other : (found_major ≢ 2) ⊎ (found_minor ≢ 4)

-- a file header and the bytes after it, or why there is none
abbrev pub FileReading : Type 0
FileReading = Result (FileHeader × List ℕ) CaptureError

-- reading a file header: it is there; or there are too few bytes; or else the magic number is
-- another one; or else the version is
abbrev pub ReadsFileHeader : List ℕ → FileReading → Type 0
ReadsFileHeader file (Ok x) = BeginsWithFileHeader file x.0 x.1
ReadsFileHeader file (Err (error.CutOff e)) = IsCutOff 24 file e
ReadsFileHeader file (Err (error.Magic found)) = HasOtherMagic file found
ReadsFileHeader file (Err (error.Version major minor)) = HasOtherVersion file major minor

-- what a record says, apart from where its bytes lie in memory
pub record Recorded : Type 0 where
  pub seconds : ℕ
  pub nanoseconds : ℕ
  pub original_len : ℕ
  pub bytes : List ℕ

abbrev pub recorded : Record → Recorded
recorded found = record {
  seconds = found.seconds;
  nanoseconds = found.nanoseconds;
  original_len = found.original_len;
  bytes = found.bytes.now;
}

-- the head of a record: the seconds; the fraction of a second; the captured length; the original
-- length
abbrev pub record_head : FileHeader → List ℕ → RecordHead
record_head header s = record {
  seconds = number_in header.format.order w32 (slice_range s 0 4);
  nanoseconds = number_in header.format.order w32 (slice_range s 4 8)
      * nanoseconds_in header.format.resolution;
  captured_len = number_in header.format.order w32 (slice_range s 8 12);
  original_len = number_in header.format.order w32 (slice_range s 12 16);
}

-- the length of a record: the head of 16 bytes, and as many bytes as were captured
abbrev pub record_len : FileHeader → List ℕ → ℕ
record_len header s = 16 + (record_head header s).captured_len

-- The data begins with this record, and the rest follows: its head, and as many bytes as were
-- captured.
pub record BeginsWithRecord (header : FileHeader) (s : List ℕ) (found : Recorded) (rest : List ℕ)
    : Type 0 where
  pub enough : 16 ≤ length s
  pub whole : record_len header s ≤ length s
  pub seconds : found.seconds ≡ (record_head header s).seconds
  pub nanoseconds : found.nanoseconds ≡ (record_head header s).nanoseconds
  pub original_len : found.original_len ≡ (record_head header s).original_len
  pub bytes : found.bytes ≡ slice_range s 16 (record_len header s)
  pub after : rest ≡ drop (record_len header s) s

-- the next record and the bytes after it; none; or how it is cut off
abbrev pub RecordReading : Type 0
RecordReading = Result (Option (Recorded × List ℕ)) CutOff

-- reading a record: it is there; or there is no more data; or there is some, and the record is cut
-- off in its head of 16 bytes, or else in its bytes
abbrev pub ReadsRecord : FileHeader → List ℕ → RecordReading → Type 0
ReadsRecord header s (Ok (Some x)) = BeginsWithRecord header s x.0 x.1
ReadsRecord header s (Ok None) = length s ≡ 0
ReadsRecord header s (Err e) = ((0 < length s) × IsCutOff 16 s e)
    ⊎ ((16 ≤ length s) × IsCutOff (record_len header s) s e)

-- what a reader of records returns, apart from where its bytes lie in memory
abbrev pub record_and_rest : Result (Option (Record × Bor (List ℕ))) CutOff → RecordReading
record_and_rest r =
    result_map_both (λ next. option_map (λ x. (recorded x.0, x.1.now)) next) (λ e. e) r
