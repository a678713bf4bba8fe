-- The parts of an IP packet of either version (RFC 791 section 3.1, RFC 8200 section 3), as far as
-- its length field says, if it says something, and its bytes are there.
use Rattle.std.specs.Prelude.{ℕ, ◌≡◌, ◌≢◌, ◌+◌, ◌*◌, ◌<◌, ◌≤◌, ◌==◌, ◌||◌, ◌&&◌, ◌⊎◌, Bool, false}
use Rattle.std.specs.Prelude.{IsTrue, List, [], ◌++◌, length, take, Result, Ok, Err, MatchOption}
use Rattle.std.specs.Prelude.{Option, Some, None, codes, decimal, if◌then◌else◌, option_map}
use Rattle.std.specs.Prelude.{not, slice_index, slice_range}
use Rattle.std.specs.Int.{from_be_bytes, w16}
use Rattle.std.specs.Result.{result_map_both}
use Rattle.std.specs.Net.Addr.{ipv4_octets, ipv6_segments, segments_of}
use Rattle.std.specs.declared.net.ip_addr.IpAddr.{IpAddr}
use Rattle.std.specs.declared.net.ip_addr.IpAddr.TheVariants.{V4, V6}
use Rattle.etherparse.specs.ExtensionHeaders.{IsSkippable}
use Rattle.etherparse.specs.FirstByte.{version_of}
use Rattle.etherparse.specs.Ipv4Errors.{ipv4_header_slice_error_text}
use Rattle.etherparse.specs.Ipv4Header.{IsIpv4Layout, RefusesIpv4, ipv4_payload_len}
use Rattle.etherparse.specs.Ipv6Errors.{ipv6_header_slice_error_text}
use Rattle.etherparse.specs.Ipv6Header.{IsIpv6Layout, RefusesIpv6}
use Rattle.etherparse.specs.LenError.{len_error_moved, len_error_text}
use Rattle.etherparse.specs.Reading.{BeginsWith, too_short_error}
use Rattle.etherparse.specs.declared.LenSource.{LenSource}
use Rattle.etherparse.specs.declared.LenSource.TheVariants as source
use Rattle.etherparse.specs.declared.err.LenError.{LenError}
use Rattle.etherparse.specs.declared.err.Layer.TheVariants as layer
use Rattle.etherparse.specs.declared.net.ipv4_header.Ipv4Header.{Ipv4Header}
use Rattle.etherparse.specs.declared.net.ipv6_header.Ipv6Header.{Ipv6Header}
use Rattle.packet_parts.specs.Extensions.{EndsAs}
use Rattle.packet_parts.specs.declared.fragment.Fragment.{Fragment}
use Rattle.etherparse_net.specs.declared.ipv6_fragment_header.Ipv6FragmentHeader.{
  Ipv6FragmentHeader,
}
use Rattle.packet_parts.specs.declared.ip_slice.IpHeaderSlice.{IpHeaderSlice}
use Rattle.packet_parts.specs.declared.ip_slice.IpHeaderSlice.TheVariants as header
use Rattle.packet_parts.specs.declared.ip_slice.IpSlice.{IpSlice}
use Rattle.packet_parts.specs.declared.ip_slice.IpSliceError.{IpSliceError}
use Rattle.packet_parts.specs.declared.ip_slice.IpSliceError.TheVariants as error
use Rattle.packet_parts.specs.declared.ip_slice.LaxIpSlice.{LaxIpSlice}

-- What there is of an IPv4 packet: the bytes as far as its total length says. A total length of 0
-- says nothing: a host writes it that leaves it to its network card to cut a long packet
-- (segmentation offload), and all bytes are the packet's.
abbrev pub ipv4_bytes : Ipv4Header → List ℕ → List ℕ
ipv4_bytes header s = if header.total_len == 0 then s else take header.total_len s

-- an IPv6 packet as far as its payload length says, taken as it stands
abbrev pub ipv6_trimmed : Ipv6Header → List ℕ → List ℕ
ipv6_trimmed header s = take (40 + header.payload_length) s

-- A payload length of 0 says nothing if hop-by-hop options (0) follow, which have 8 bytes at least:
-- it is 0 in a jumbogram, whose length is in one of these options (RFC 2675 section 3).
abbrev pub says_no_length : ℕ → ℕ → Bool
says_no_length payload_length next_header = payload_length == 0 && next_header == 0

-- What there is of an IPv6 packet: the bytes as far as its payload length says, or if that says
-- nothing, all bytes.
abbrev pub ipv6_bytes : Ipv6Header → List ℕ → List ℕ
ipv6_bytes header s =
    if says_no_length header.payload_length header.next_header then s
    else ipv6_trimmed header s

-- the bytes of the header
abbrev pub header_bytes : IpHeaderSlice → List ℕ
header_bytes (header.Ipv4 view) = view.slice.now
header_bytes (header.Ipv6 view) = view.slice.now

-- how long an IPv6 packet is by its payload length; 0 if that says nothing
abbrev pub ipv6_packet_len : ℕ → ℕ → ℕ
ipv6_packet_len payload_length next_header =
    if says_no_length payload_length next_header then 0 else 40 + payload_length

-- How long the packet is by its length field: the total length is in bytes 2 and 3 of the header
-- (RFC 791 section 3.1), the payload length in bytes 4 and 5, before the next header (RFC 8200
-- section 3). If the field says nothing, it is 0.
abbrev pub packet_len_of : IpHeaderSlice → ℕ
packet_len_of (header.Ipv4 view) = from_be_bytes w16 (slice_range view.slice.now 2 4)
packet_len_of (header.Ipv6 view) = ipv6_packet_len
    (from_be_bytes w16 (slice_range view.slice.now 4 6)) (slice_index view.slice.now 6)

-- the place of a fragment, whose offset is in units of 8 bytes (RFC 791 section 3.1)
abbrev pub ipv4_fragment_of : Ipv4Header → Option Fragment
ipv4_fragment_of header =
    if header.more_fragments || not (header.fragment_offset == 0)
    then Some (record {
      identification = header.identification;
      offset = 8 * header.fragment_offset;
      more_fragments = header.more_fragments;
    })
    else None

-- the same by a fragment header of IPv6 (RFC 8200 section 4.5)
abbrev pub placed : Ipv6FragmentHeader → Fragment
placed header = record {
  identification = header.identification;
  offset = 8 * header.fragment_offset;
  more_fragments = header.more_fragments;
}

-- What there is of the packet is a header with these bytes and a payload of its protocol. The
-- header says whether that is a fragment, and a later one if its offset is not 0.
pub record HasIpv4Parts (packet front : List ℕ) (slice : IpSlice) : Type 0 where
  pub header : Ipv4Header
  pub begins : BeginsWith IsIpv4Layout (ipv4_bytes header packet) header slice.payload.now
  pub view : begins.front ≡ front
  pub no_extensions : slice.extensions.now ≡ []
  pub fragment : slice.fragment ≡ ipv4_fragment_of header
  pub is_later : slice.is_later_fragment ≡ not (header.fragment_offset == 0)
  pub upper : slice.upper ≡ header.protocol

-- What there is of the packet is a header with these bytes, whole extension headers, and a payload
-- of the number that the last header gives. If it ends within an extension header, what there is of
-- that is in the place of the payload. The fragment header that decides says whether the payload is
-- a fragment, and the last header whether it is of a later one.
pub record HasIpv6Parts (packet front : List ℕ) (slice : IpSlice) : Type 0 where
  pub header : Ipv6Header
  pub body : List ℕ
  pub begins : BeginsWith IsIpv6Layout (ipv6_bytes header packet) header body
  pub view : begins.front ≡ front
  pub parts : body ≡ slice.extensions.now ++ slice.payload.now
  pub decided : Option Ipv6FragmentHeader
  pub incomplete : Option LenError
  pub ends : EndsAs slice.is_later_fragment incomplete body header.next_header decided slice.upper
      slice.payload.now
  pub fragment : slice.fragment ≡ option_map placed decided

-- what there is of the packet is these parts, of which this is the header
abbrev pub HasPartsWith : IpHeaderSlice → List ℕ → IpSlice → Type 0
HasPartsWith (header.Ipv4 view) packet slice = HasIpv4Parts packet view.slice.now slice
HasPartsWith (header.Ipv6 view) packet slice = HasIpv6Parts packet view.slice.now slice

-- what there is of the packet is these parts
abbrev pub HasIpParts : List ℕ → IpSlice → Type 0
HasIpParts packet slice = HasPartsWith slice.header packet slice

-- no extension header is incomplete: the payload is of a later fragment, or it begins with no
-- extension header
abbrev pub HasWholeHeaders : IpHeaderSlice → IpSlice → Type 0
HasWholeHeaders (header.Ipv4 view) slice = Unit {0}
HasWholeHeaders (header.Ipv6 view) slice = IsTrue slice.is_later_fragment
    ⊎ ¬ IsSkippable slice.upper

-- the length field says how long the packet is, all those bytes are there, and it ends within no
-- extension header
pub record IsWhole (packet : List ℕ) (slice : IpSlice) : Type 0 where
  pub told : packet_len_of slice.header ≢ 0
  pub enough : packet_len_of slice.header ≤ length packet
  pub headers : HasWholeHeaders slice.header slice

-- the packet is in these parts
pub record IsIpPacket (packet : List ℕ) (slice : IpSlice) : Type 0 where
  pub parts : HasIpParts packet slice
  pub whole : IsWhole packet slice

-- the total length is below the length of the header
pub record StatesTooLittle (packet : List ℕ) (e : LenError) : Type 0 where
  pub header : Ipv4Header
  pub rest : List ℕ
  pub begins : BeginsWith IsIpv4Layout packet header rest
  pub says : ipv4_payload_len header ≡ Err e

-- the packet is shorter than its total length
pub record EndsInIpv4Payload (packet : List ℕ) (e : LenError) : Type 0 where
  pub header : Ipv4Header
  pub rest : List ℕ
  pub begins : BeginsWith IsIpv4Layout packet header rest
  pub short : length packet < header.total_len
  pub error : e ≡ too_short_error layer.Ipv4Packet header.total_len (length packet)

-- the packet is shorter than its header and its payload length together
pub record EndsInIpv6Payload (packet : List ℕ) (e : LenError) : Type 0 where
  pub header : Ipv6Header
  pub rest : List ℕ
  pub begins : BeginsWith IsIpv6Layout packet header rest
  pub short : length packet < 40 + header.payload_length
  pub error : e ≡ too_short_error layer.Ipv6Packet (40 + header.payload_length) (length packet)

-- What says where the payload of a packet ends that has all its bytes: the total length, which
-- counts the header too (RFC 791 section 3.1), or the payload length (RFC 8200 section 3).
abbrev pub payload_end_of : IpHeaderSlice → LenSource
payload_end_of (header.Ipv4 view) = source.Ipv4HeaderTotalLen
payload_end_of (header.Ipv6 view) = source.Ipv6HeaderPayloadLen

-- the error of an extension header in such a packet; its place counts from the packet's start
abbrev pub extension_error : LenError → LenError
extension_error inside =
    record (len_error_moved 40 inside) { len_source = source.Ipv6HeaderPayloadLen }

-- the packet has all bytes that its payload length says, taken as it stands, and trimmed there it
-- ends within an extension header
pub record EndsInExtensions (packet : List ℕ) (e : LenError) : Type 0 where
  pub header : Ipv6Header
  pub body : List ℕ
  pub enough : 40 + header.payload_length ≤ length packet
  pub begins : BeginsWith IsIpv6Layout (ipv6_trimmed header packet) header body
  pub fragment : Option Ipv6FragmentHeader
  pub number : ℕ
  pub rest : List ℕ
  pub inside : LenError
  pub ends : EndsAs false (Some inside) body header.next_header fragment number rest
  pub moved : e ≡ extension_error inside

-- Why a packet is not sliced: it has no bytes; its version is neither 4 nor 6; it has no header of
-- its version. Or its total length is below its header, or it is shorter than its length field
-- says; or it ends within an extension header.
abbrev pub RefusesIp : List ℕ → IpSliceError → Type 0
RefusesIp packet (error.Empty e) =
    (length packet ≡ 0) × (e ≡ too_short_error layer.IpHeader 1 0)
RefusesIp packet (error.UnexpectedVersion version) =
    (0 < length packet) × (version ≡ version_of packet) × (version ≢ 4) × (version ≢ 6)
RefusesIp packet (error.Ipv4Header e) =
    (0 < length packet) × (version_of packet ≡ 4) × RefusesIpv4 packet e
RefusesIp packet (error.Ipv6Header e) =
    (0 < length packet) × (version_of packet ≡ 6) × RefusesIpv6 packet e
RefusesIp packet (error.Packet e) =
    StatesTooLittle packet e ⊎ EndsInIpv4Payload packet e ⊎ EndsInIpv6Payload packet e
RefusesIp packet (error.Extensions e) = EndsInExtensions packet e

-- the total length is below the length of the header, and not 0
pub record StatesLessThanHeader (packet : List ℕ) (e : LenError) : Type 0 where
  pub states : StatesTooLittle packet e
  pub some : states.header.total_len ≢ 0

-- why there are no parts at all: for each of these reasons, but not for a missing end, an
-- incomplete extension header, or a length field that says nothing
abbrev pub HasNoIpParts : List ℕ → IpSliceError → Type 0
HasNoIpParts packet (error.Packet e) = StatesLessThanHeader packet e
HasNoIpParts packet (error.Extensions e) = ⊥
HasNoIpParts packet (error.Empty e) = RefusesIp packet (error.Empty e)
HasNoIpParts packet (error.UnexpectedVersion version) =
    RefusesIp packet (error.UnexpectedVersion version)
HasNoIpParts packet (error.Ipv4Header e) = RefusesIp packet (error.Ipv4Header e)
HasNoIpParts packet (error.Ipv6Header e) = RefusesIp packet (error.Ipv6Header e)

-- these are the parts, and it stops for the reason why the packet is not sliced, or it is whole
pub record HasLaxIpParts (packet : List ℕ) (lax : LaxIpSlice) : Type 0 where
  pub parts : HasIpParts packet lax.slice
  pub stop : MatchOption lax.stop (IsWhole packet lax.slice) (RefusesIp packet)

-- the text of the error with which a packet is refused
abbrev pub ip_slice_error_text : IpSliceError → List ℕ
ip_slice_error_text (error.Empty e) = len_error_text e
ip_slice_error_text (error.UnexpectedVersion version) =
    codes "IP Header Error: Version " ++ (decimal version ++ codes " is neither 4 nor 6.")
ip_slice_error_text (error.Ipv4Header e) = ipv4_header_slice_error_text e
ip_slice_error_text (error.Ipv6Header e) = ipv6_header_slice_error_text e
ip_slice_error_text (error.Packet e) = len_error_text e
ip_slice_error_text (error.Extensions e) = len_error_text e

-- the source of the header: bytes 12 to 15 (RFC 791 section 3.1), or 8 to 23 (RFC 8200 section 3)
abbrev pub source_of : IpHeaderSlice → List ℕ
source_of (header.Ipv4 view) = slice_range view.slice.now 12 16
source_of (header.Ipv6 view) = slice_range view.slice.now 8 24

-- the destination of the header: bytes 16 to 19, or 24 to 39
abbrev pub destination_of : IpHeaderSlice → List ℕ
destination_of (header.Ipv4 view) = slice_range view.slice.now 16 20
destination_of (header.Ipv6 view) = slice_range view.slice.now 24 40

-- an address of the version of the packet, with these octets: 4 or 16
abbrev pub IsAddressIn : IpHeaderSlice → IpAddr → List ℕ → Type 0
IsAddressIn (header.Ipv4 view) (V4 address) octets = ipv4_octets address ≡ octets
IsAddressIn (header.Ipv6 view) (V6 address) octets = ipv6_segments address ≡ segments_of octets
IsAddressIn header address octets = ⊥

-- the place of the payload: how long the headers before it are
abbrev pub header_len_of : IpSlice → ℕ
header_len_of slice = length (header_bytes slice.header) + length slice.extensions.now

-- the header of a packet by its version, apart from where it lies in memory
pub data IpHeaderParts : Type 0 where
  Ipv4Bytes : List ℕ → IpHeaderParts
  Ipv6Bytes : List ℕ → IpHeaderParts

-- what the view of a header shows
abbrev pub header_parts : IpHeaderSlice → IpHeaderParts
header_parts (header.Ipv4 view) = Ipv4Bytes view.slice.now
header_parts (header.Ipv6 view) = Ipv6Bytes view.slice.now

-- and all its parts
pub record IpParts : Type 0 where
  pub header : IpHeaderParts
  pub extensions : List ℕ
  pub fragment : Option Fragment
  pub is_later_fragment : Bool
  pub upper : ℕ
  pub payload : List ℕ

-- what a slice shows
abbrev pub ip_parts : IpSlice → IpParts
ip_parts slice = record {
  header = header_parts slice.header;
  extensions = slice.extensions.now;
  fragment = slice.fragment;
  is_later_fragment = slice.is_later_fragment;
  upper = slice.upper;
  payload = slice.payload.now;
}

-- slicing a packet: it is in these parts, or it is refused; and the same as far as it is there
abbrev pub ReadsIp : List ℕ → Result IpSlice IpSliceError → Type 0
ReadsIp packet (Ok slice) = IsIpPacket packet slice
ReadsIp packet (Err e) = RefusesIp packet e

abbrev pub ReadsLaxIp : List ℕ → Result LaxIpSlice IpSliceError → Type 0
ReadsLaxIp packet (Ok lax) = HasLaxIpParts packet lax
ReadsLaxIp packet (Err e) = HasNoIpParts packet e

-- what an answer says, apart from where its slices lie in memory
abbrev pub ip_answer : Result IpSlice IpSliceError → Result IpParts IpSliceError
ip_answer answer = result_map_both ip_parts (λ e. e) answer

abbrev pub lax_ip_answer : Result LaxIpSlice IpSliceError
    → Result (IpParts × Option IpSliceError) IpSliceError
lax_ip_answer answer = result_map_both (λ lax. (ip_parts lax.slice, lax.stop)) (λ e. e) answer
