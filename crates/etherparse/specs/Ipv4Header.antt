-- The IPv4 header (RFC 791 section 3.1), with the DSCP of RFC 2474 and the ECN of RFC 3168.
use Rattle.std.specs.Prelude.{ℕ, ◌≡◌, ◌≢◌, ◌+◌, ◌-◌, ◌*◌, ◌/◌, ◌%◌, ◌^◌, ◌<◌, ◌≤◌, ◌↔◌, ◌⊎◌}
use Rattle.std.specs.Prelude.{List, [], ◌++◌, length, drop, take}
use Rattle.std.specs.Prelude.{slice_index, slice_range, slice_set, replicate}
use Rattle.std.specs.Prelude.{IfOk, Result, Ok, Err, true, false, IsTrue, if◌then◌else◌, nat_le}
use Rattle.std.specs.Int.{from_be_bytes, from_bool, w16}
use Rattle.etherparse_base.specs.Bytes.{IsBytes}
use Rattle.etherparse_base.specs.declared.len_source.LenSource.TheVariants.{Ipv4HeaderTotalLen}
use Rattle.etherparse_base.specs.declared.err.layer.Layer.TheVariants as layer
use Rattle.etherparse_base.specs.declared.err.len_error.LenError.{LenError}
use Rattle.etherparse_base.specs.declared.err.ipv4.header_error.HeaderError.TheVariants as content
use Rattle.etherparse_base.specs.declared.err.ipv4.header_slice_error.HeaderSliceError as error
use Rattle.etherparse_base.specs.declared.err.ipv4.header_slice_error.HeaderSliceError.TheVariants
    as slice
use Rattle.etherparse_fields.specs.IpEcn.{ecn_value}
use Rattle.etherparse_fields.specs.Ipv4Options.{IsOptionsLen}
use Rattle.etherparse_fields.specs.declared.net.ip_ecn.IpEcn.TheVariants.{NotEct}
use Rattle.etherparse.specs.FirstByte.{ihl_of, version_of}
use Rattle.etherparse.specs.Reading.{BeginsWith, HasOtherVersion, IsTooShort, Reads, Views}
use Rattle.etherparse.specs.Reading.{too_short_error}
use Rattle.etherparse.specs.declared.net.ipv4_header.Ipv4Header.{Ipv4Header}

-- the length of a header in bytes: 20, and its options
abbrev pub ipv4_header_len : Ipv4Header → ℕ
ipv4_header_len header = 20 + length header.options

-- the same in words of four bytes, as the IHL field has it
abbrev pub ipv4_ihl : Ipv4Header → ℕ
ipv4_ihl header = 5 + length header.options / 4

-- the first word of a header: the version, the IHL, the DSCP and the ECN
abbrev pub ipv4_first_word : Ipv4Header → ℕ
ipv4_first_word header =
    (4 * 2 ^ 4 + ipv4_ihl header) * 2 ^ 8 + header.dscp * 2 ^ 2 + ecn_value header.ecn

-- The bytes of a header, in network byte order. The first of the flags is reserved and is not a
-- field of the header: it is given separately.
pub record IsIpv4LayoutWith (header : Ipv4Header) (reserved : ℕ) (bytes : List ℕ) : Type 0 where
  pub len : length bytes ≡ ipv4_header_len header
  pub are_bytes : IsBytes bytes
  pub version_ihl : slice_index bytes 0 ≡ 4 * 2 ^ 4 + ipv4_ihl header
  pub dscp_ecn : slice_index bytes 1 ≡ header.dscp * 2 ^ 2 + ecn_value header.ecn
  pub total_len : from_be_bytes w16 (slice_range bytes 2 4) ≡ header.total_len
  pub identification : from_be_bytes w16 (slice_range bytes 4 6) ≡ header.identification
  pub flags_fragment_offset : from_be_bytes w16 (slice_range bytes 6 8)
      ≡ reserved * 2 ^ 15 + from_bool header.dont_fragment * 2 ^ 14
      + from_bool header.more_fragments * 2 ^ 13 + header.fragment_offset
  pub time_to_live : slice_index bytes 8 ≡ header.time_to_live
  pub protocol : slice_index bytes 9 ≡ header.protocol
  pub header_checksum : from_be_bytes w16 (slice_range bytes 10 12) ≡ header.header_checksum
  pub source : slice_range bytes 12 16 ≡ header.source
  pub destination : slice_range bytes 16 20 ≡ header.destination
  pub options : drop 20 bytes ≡ header.options
  pub options_len : IsOptionsLen (length header.options)
  pub dscp_fits : header.dscp < 2 ^ 6
  pub fragment_offset_fits : header.fragment_offset < 2 ^ 13
  pub reserved_fits : reserved < 2

-- the bytes have the layout of the header, with either reserved bit
pub record IsIpv4Layout (header : Ipv4Header) (bytes : List ℕ) : Type 0 where
  pub reserved : ℕ
  pub layout : IsIpv4LayoutWith header reserved bytes

-- the fact holds of each header whose layout the bytes have; there is at most one
abbrev pub OfIpv4Header : List ℕ → (Ipv4Header → Type 0) → Type 0
OfIpv4Header bytes P = (header : Ipv4Header) → IsIpv4Layout header bytes → P header

-- the same bytes with the reserved bit 0: it is the highest bit of byte 6
abbrev pub with_reserved_bit_cleared : List ℕ → List ℕ
with_reserved_bit_cleared bytes = slice_set bytes 6 (slice_index bytes 6 % 2 ^ 7)

-- the slice has the 20 bytes of the shortest header, and its version is 4
pub record HasIhl (s : List ℕ) : Type 0 where
  pub enough : 20 ≤ length s
  pub version : version_of s ≡ 4

-- Why the front of a slice is no header: it is shorter than any header; or else its version is not
-- 4; or else its IHL is too small; or else it is shorter than the IHL says.
abbrev pub RefusesIpv4 : List ℕ → error.HeaderSliceError → Type 0
RefusesIpv4 s (slice.Len e) = IsTooShort layer.Ipv4Header 20 s e
    ⊎ (HasIhl s × (5 ≤ ihl_of s) × IsTooShort layer.Ipv4Header (4 * ihl_of s) s e)
RefusesIpv4 s (slice.Content (content.UnexpectedVersion version)) = HasOtherVersion 20 4 s version
RefusesIpv4 s (slice.Content (content.HeaderLengthSmallerThanHeader ihl)) =
    HasIhl s × (ihl_of s < 5) × (ihl ≡ ihl_of s)

-- a header and the bytes after it, or why there is no header
abbrev pub Ipv4Reading : Type 0
Ipv4Reading = Result (Ipv4Header × List ℕ) error.HeaderSliceError

abbrev pub ReadsIpv4 : List ℕ → Ipv4Reading → Type 0
ReadsIpv4 s reading = Reads IsIpv4Layout RefusesIpv4 s reading

-- The reading of a slice has this answer, and no other.
pub record IsIpv4ReadingOf (s : List ℕ) (answer : Ipv4Reading) : Type 0 where
  pub reads : ReadsIpv4 s answer
  pub only : (other : Ipv4Reading) → ReadsIpv4 s other → other ≡ answer
  -- what was read is written again, with the reserved bit 0
  pub cleared : IfOk answer (λ x. (front : List ℕ) → s ≡ front ++ x.1
      → IsIpv4LayoutWith x.0 0 (with_reserved_bit_cleared front))
  -- bytes that have a header have the same one exactly when they agree in all but that bit
  pub same_header : IfOk answer (λ x. (front : List ℕ) → s ≡ front ++ x.1 → (bytes : List ℕ)
      → OfIpv4Header bytes (λ header. (header ≡ x.0)
      ↔ (with_reserved_bit_cleared bytes ≡ with_reserved_bit_cleared front)))
  -- a packet that is cut after the header still begins with it
  pub cut : IfOk answer (λ x. (n len : ℕ) → ipv4_header_len x.0 + n ≡ len → len ≤ length s
      → BeginsWith IsIpv4Layout (take len s) x.0 (take n x.1))

abbrev pub ViewsIpv4 : List ℕ → Result (List ℕ) error.HeaderSliceError → Type 0
ViewsIpv4 s front = Views IsIpv4Layout RefusesIpv4 s front

-- the header that is made with no field given; protocol 255 is reserved
abbrev pub default_ipv4_header : Ipv4Header
default_ipv4_header = record {
  dscp = 0;
  ecn = NotEct;
  total_len = 0;
  identification = 0;
  dont_fragment = true;
  more_fragments = false;
  fragment_offset = 0;
  time_to_live = 0;
  protocol = 255;
  header_checksum = 0;
  source = replicate 4 0;
  destination = replicate 4 0;
  options = [];
}

-- the longest payload after a header, in bytes, since the total length counts both
abbrev pub ipv4_max_payload_len : Ipv4Header → ℕ
ipv4_max_payload_len header = 65535 - ipv4_header_len header

-- what a total length counts beyond the header; an error if it counts less than the header
abbrev pub payload_len_of : ℕ → ℕ → Result ℕ LenError
payload_len_of header_len total_len =
    if nat_le header_len total_len
    then Ok (total_len - header_len)
    else Err (record (too_short_error layer.Ipv4Packet header_len total_len) {
      len_source = Ipv4HeaderTotalLen;
    })

-- the length of the payload after a header
abbrev pub ipv4_payload_len : Ipv4Header → Result ℕ LenError
ipv4_payload_len header = payload_len_of (ipv4_header_len header) header.total_len

-- the payload is a fragment: more fragments follow it, or its offset is not 0
abbrev pub IsFragment : Ipv4Header → Type 0
IsFragment header = IsTrue header.more_fragments ⊎ (header.fragment_offset ≢ 0)
