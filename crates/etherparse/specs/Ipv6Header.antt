-- The IPv6 header (RFC 8200 section 3).
use Rattle.std.specs.Prelude.{ℕ, ◌≡◌, ◌+◌, ◌*◌, ◌^◌, ◌<◌, ◌≤◌, List, ◌++◌, length, take}
use Rattle.std.specs.Prelude.{slice_index, slice_range, IfOk, Result, replicate}
use Rattle.std.specs.List.{concat}
use Rattle.std.specs.Int.{from_be_bytes, w16, w32}
use Rattle.etherparse_base.specs.Bytes.{IsBytes}
use Rattle.etherparse_base.specs.declared.err.layer.Layer.TheVariants as layer
use Rattle.etherparse_base.specs.declared.err.ipv6.header_error.HeaderError.TheVariants as content
use Rattle.etherparse_base.specs.declared.err.ipv6.header_slice_error.HeaderSliceError as error
use Rattle.etherparse_base.specs.declared.err.ipv6.header_slice_error.HeaderSliceError.TheVariants
    as slice
use Rattle.etherparse.specs.ExtensionHeaderChain.{BeginsWithChain, IsExtensionHeaderChain}
use Rattle.etherparse.specs.Reading.{BeginsWith, HasOtherVersion, IsTooShort, Reads, Views}
use Rattle.etherparse.specs.declared.net.ipv6_header.Ipv6Header.{Ipv6Header}

-- the 40 bytes of a header, in network byte order
pub record IsIpv6Layout (header : Ipv6Header) (bytes : List ℕ) : Type 0 where
  pub len : length bytes ≡ 40
  pub are_bytes : IsBytes bytes
  pub version_traffic_class_flow_label : from_be_bytes w32 (slice_range bytes 0 4)
      ≡ 6 * 2 ^ 28 + header.traffic_class * 2 ^ 20 + header.flow_label
  pub payload_length : from_be_bytes w16 (slice_range bytes 4 6) ≡ header.payload_length
  pub next_header : slice_index bytes 6 ≡ header.next_header
  pub hop_limit : slice_index bytes 7 ≡ header.hop_limit
  pub source : slice_range bytes 8 24 ≡ header.source
  pub destination : slice_range bytes 24 40 ≡ header.destination
  pub traffic_class_fits : header.traffic_class < 2 ^ 8
  pub flow_label_fits : header.flow_label < 2 ^ 20

-- the fact holds of each header whose layout the bytes have; there is at most one
abbrev pub OfIpv6Header : List ℕ → (Ipv6Header → Type 0) → Type 0
OfIpv6Header bytes P = (header : Ipv6Header) → IsIpv6Layout header bytes → P header

-- Why the front of a slice is no header: it is shorter than a header; or else its version is not 6.
abbrev pub RefusesIpv6 : List ℕ → error.HeaderSliceError → Type 0
RefusesIpv6 s (slice.Len e) = IsTooShort layer.Ipv6Header 40 s e
RefusesIpv6 s (slice.Content (content.UnexpectedVersion version)) = HasOtherVersion 40 6 s version

-- a header and the bytes after it, or why there is no header
abbrev pub Ipv6Reading : Type 0
Ipv6Reading = Result (Ipv6Header × List ℕ) error.HeaderSliceError

abbrev pub ReadsIpv6 : List ℕ → Ipv6Reading → Type 0
ReadsIpv6 s reading = Reads IsIpv6Layout RefusesIpv6 s reading

-- the packet is an IPv6 header, a chain of the extension headers after it, and the rest after them
pub record HasIpv6Chain (packet : List ℕ) (header : Ipv6Header) (headers : List (List ℕ))
    (last : ℕ) (rest : List ℕ) : Type 0 where
  pub front : List ℕ
  pub layout : IsIpv6Layout header front
  pub chain : IsExtensionHeaderChain header.next_header headers last
  pub whole : packet ≡ front ++ (concat headers ++ rest)

-- The reading of a slice has this answer, and no other.
pub record IsIpv6ReadingOf (s : List ℕ) (answer : Ipv6Reading) : Type 0 where
  pub reads : ReadsIpv6 s answer
  pub only : (other : Ipv6Reading) → ReadsIpv6 s other → other ≡ answer
  -- with a chain of extension headers after it, the slice is the header, the chain and a rest
  pub chain : IfOk answer (λ x. (headers : List (List ℕ)) (last : ℕ) (rest : List ℕ)
      → BeginsWithChain x.1 x.0.next_header headers last rest
      → HasIpv6Chain s x.0 headers last rest)
  -- a packet that is cut after the header still begins with it
  pub cut : IfOk answer (λ x. (n len : ℕ) → 40 + n ≡ len → len ≤ length s
      → BeginsWith IsIpv6Layout (take len s) x.0 (take n x.1))

abbrev pub ViewsIpv6 : List ℕ → Result (List ℕ) error.HeaderSliceError → Type 0
ViewsIpv6 s front = Views IsIpv6Layout RefusesIpv6 s front

-- the header that is made with no field given; next header 255 is reserved
abbrev pub default_ipv6_header : Ipv6Header
default_ipv6_header = record {
  traffic_class = 0;
  flow_label = 0;
  payload_length = 0;
  next_header = 255;
  hop_limit = 0;
  source = replicate 16 0;
  destination = replicate 16 0;
}
