-- The headers of a packet that is a fragment, which are its bytes before those of the fragment; and
-- the packet of a datagram whose first fragment has them (RFC 791 section 3.2, RFC 8200 section
-- 4.5), with the ECN codepoint of all its fragments (RFC 3168 section 5.3).
use Rattle.std.specs.Prelude.{ℕ, ◌≡◌, ◌+◌, ◌<◌, ◌≤◌, ◌++◌, ◌⊎◌, List, length, take}
use Rattle.std.specs.Prelude.{Option, Some, None}
use Rattle.etherparse.specs.Ipv4Header.{IsIpv4Layout, ipv4_max_payload_len}
use Rattle.etherparse.specs.Ipv6Header.{IsIpv6Layout}
use Rattle.etherparse.specs.declared.err.ValueTooBigError.{ValueTooBigError}
use Rattle.etherparse.specs.declared.err.ValueType.TheVariants as value
use Rattle.etherparse.specs.declared.net.ipv4_header.Ipv4Header.{Ipv4Header}
use Rattle.etherparse.specs.declared.net.ipv6_header.Ipv6Header.{Ipv6Header}
use Rattle.etherparse_net.specs.Ipv6FragmentHeader.{IsFragmentLayout}
use Rattle.etherparse_net.specs.declared.ipv6_fragment_header.Ipv6FragmentHeader.{
  Ipv6FragmentHeader,
}
use Rattle.packet_reassembly.specs.Ecn.{marked_ipv4, marked_ipv6}
use Rattle.packet_reassembly.specs.Packet.{AreUnfragmentable, IsIpv4Packet, IsIpv6Packet}
use Rattle.packet_reassembly.specs.declared.fragment_ecn.FragmentEcn.{FragmentEcn}
use Rattle.packet_reassembly.specs.declared.ip_defrag_headers.Kept.{Kept}
use Rattle.packet_reassembly.specs.declared.ip_defrag_headers.Kept.TheVariants as kept
use Rattle.packet_reassembly.specs.declared.ip_frag_id.IpFragVersionSpecId.{IpFragVersionSpecId}
use Rattle.packet_reassembly.specs.declared.ip_frag_id.IpFragVersionSpecId.TheVariants as version
use Rattle.packet_reassembly.specs.declared.ip_fragment_slice.IpFragmentSlice.{IpFragmentSlice}

-- they are an IPv6 header, the extension headers before a fragment header, and that one
pub record AreIpv6Headers (headers : List ℕ) (first : Ipv6Header) (before last : List ℕ)
    (fragment : Ipv6FragmentHeader) : Type 0 where
  pub front : List ℕ
  pub at : List ℕ
  pub whole : headers ≡ front ++ (before ++ (last ++ at))
  pub layout : IsIpv6Layout first front
  pub unfragmentable : AreUnfragmentable first.next_header before last
  pub fragment_layout : IsFragmentLayout fragment at

-- the IPv4 packet of a datagram whose first fragment has this header, with its options, and whose
-- fragments have these codepoints
pub record IsIpv4PacketWith (headers : List ℕ) (ecn : FragmentEcn) (datagram packet : List ℕ)
    : Type 0 where
  pub first : Ipv4Header
  pub layout : IsIpv4Layout first headers
  pub has : IsIpv4Packet (marked_ipv4 ecn first) datagram packet

-- The IPv6 packet of a datagram whose first fragment has these headers, and whose fragments have
-- these codepoints. What named the fragment header names what the fragment header of the first
-- fragment names.
pub record IsIpv6PacketWith (headers : List ℕ) (ecn : FragmentEcn) (datagram packet : List ℕ)
    : Type 0 where
  pub first : Ipv6Header
  pub before : List ℕ
  pub last : List ℕ
  pub fragment : Ipv6FragmentHeader
  pub are_headers : AreIpv6Headers headers first before last fragment
  pub has : IsIpv6Packet (marked_ipv6 ecn first) before last fragment.next_header datagram packet

-- the packet of a datagram whose first fragment has these headers, and whose fragments have these
-- codepoints; there is none if the headers are not known
abbrev pub IsPacketOf : Option (List ℕ) → FragmentEcn → List ℕ → List ℕ → Type 0
IsPacketOf None ecn datagram packet = ⊥
IsPacketOf (Some headers) ecn datagram packet =
    IsIpv4PacketWith headers ecn datagram packet ⊎ IsIpv6PacketWith headers ecn datagram packet

-- the header and the datagram are longer than a total length can say
pub record IsTooLongForIpv4 (headers datagram : List ℕ) : Type 0 where
  pub first : Ipv4Header
  pub layout : IsIpv4Layout first headers
  pub long : 65535 < length headers + length datagram

-- the extension headers and the datagram are longer than a payload length can say
pub record IsTooLongForIpv6 (headers datagram : List ℕ) : Type 0 where
  pub first : Ipv6Header
  pub before : List ℕ
  pub last : List ℕ
  pub fragment : Ipv6FragmentHeader
  pub are_headers : AreIpv6Headers headers first before last fragment
  pub long : 65535 < length before + length last + length datagram

-- the packet of a datagram whose first fragment has these headers would be too long
abbrev pub IsTooLongFor : Option (List ℕ) → List ℕ → Type 0
IsTooLongFor None datagram = ⊥
IsTooLongFor (Some headers) datagram =
    IsTooLongForIpv4 headers datagram ⊎ IsTooLongForIpv6 headers datagram

-- The error of an IPv4 packet that would be too long: how long the datagram is, and how long it can
-- be after this header.
pub record IsIpv4ErrorFor (headers datagram : List ℕ) (e : ValueTooBigError ℕ) : Type 0 where
  pub first : Ipv4Header
  pub layout : IsIpv4Layout first headers
  pub is : e ≡ record {
    actual = length datagram;
    max_allowed = ipv4_max_payload_len first;
    value_type = value.Ipv4PayloadLength;
  }

-- that of an IPv6 packet: how long the extension headers and the datagram are, and can be
pub record IsIpv6ErrorFor (headers datagram : List ℕ) (e : ValueTooBigError ℕ) : Type 0 where
  pub first : Ipv6Header
  pub before : List ℕ
  pub last : List ℕ
  pub fragment : Ipv6FragmentHeader
  pub are_headers : AreIpv6Headers headers first before last fragment
  pub is : e ≡ record {
    actual = length before + length last + length datagram;
    max_allowed = 65535;
    value_type = value.Ipv6PayloadLength;
  }

-- the error of the packet of a datagram whose first fragment has these headers
abbrev pub IsErrorFor : Option (List ℕ) → List ℕ → ValueTooBigError ℕ → Type 0
IsErrorFor None datagram e = ⊥
IsErrorFor (Some headers) datagram e =
    IsIpv4ErrorFor headers datagram e ⊎ IsIpv6ErrorFor headers datagram e

-- they are those of an IPv6 packet, and the last extension header before the fragment header is at
-- this place, or if there is none the fragment header itself
pub record AreIpv6HeadersAt (headers : List ℕ) (place : ℕ) : Type 0 where
  pub first : Ipv6Header
  pub before : List ℕ
  pub last : List ℕ
  pub fragment : Ipv6FragmentHeader
  pub are_headers : AreIpv6Headers headers first before last fragment
  pub is_place : place ≡ 40 + length before

-- the headers of a fragment of this version
abbrev pub AreHeadersAt : IpFragVersionSpecId → List ℕ → ℕ → Type 0
AreHeadersAt (version.Ipv4 source destination protocol identification) headers place =
    (first : Ipv4Header) × IsIpv4Layout first headers
AreHeadersAt (version.Ipv6 source destination identification) headers place =
    AreIpv6HeadersAt headers place

-- the fragment has those of its version, and there is room for them
abbrev pub HasHeaders : IpFragmentSlice → Type 0
HasHeaders f = (length f.headers.now ≤ 1280)
    × AreHeadersAt f.ip f.headers.now f.last_extension

-- what the memory holds: no public clause cites this
abbrev pub kept_headers : Kept → List ℕ → Option (List ℕ)
kept_headers kept.Nothing bytes = None
kept_headers (kept.Ipv4 len) bytes = Some (take len bytes)
kept_headers (kept.Ipv6 len place) bytes = Some (take len bytes)

abbrev pub AreKeptAs : Kept → List ℕ → Type 0
AreKeptAs kept.Nothing bytes = 1280 ≤ length bytes
AreKeptAs (kept.Ipv4 len) bytes = (1280 ≤ length bytes) × (len ≤ 1280)
    × ((first : Ipv4Header) × IsIpv4Layout first (take len bytes))
AreKeptAs (kept.Ipv6 len place) bytes = (1280 ≤ length bytes) × (len ≤ 1280)
    × AreIpv6HeadersAt (take len bytes) place
