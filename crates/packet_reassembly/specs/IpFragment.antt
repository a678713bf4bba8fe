-- A packet of either version that is a fragment (RFC 791 section 3.1, RFC 8200 section 4.5).
use Rattle.std.specs.Prelude.{ℕ, ◌≡◌, ◌≢◌, ◌≤◌, ◌+◌, ◌%◌, ◌^◌, ◌⊎◌, List, ◌++◌, length, None}
use Rattle.std.specs.Prelude.{Bool, Err, Ok, Option, Result, Some, option_map}
use Rattle.std.specs.Result.{result_map_both}
use Rattle.etherparse.specs.IpEcn.{ecn_value}
use Rattle.etherparse.specs.Ipv4Header.{IsFragment, IsIpv4Layout}
use Rattle.etherparse.specs.Ipv6Header.{IsIpv6Layout}
use Rattle.etherparse.specs.Reading.{BeginsWith}
use Rattle.etherparse.specs.declared.IpEcn.{IpEcn}
use Rattle.etherparse.specs.declared.net.ipv4_header.Ipv4Header.{Ipv4Header}
use Rattle.etherparse.specs.declared.net.ipv6_header.Ipv6Header.{Ipv6Header}
use Rattle.etherparse.specs.declared.err.LenError.{LenError}
use Rattle.packet_parts.specs.IpSlice.{EndsInExtensions, RefusesIp, ipv4_bytes, ipv6_trimmed}
use Rattle.packet_parts.specs.declared.ip_slice.IpSliceError.{IpSliceError}
use Rattle.packet_parts.specs.declared.ip_slice.IpSliceError.TheVariants as error
use Rattle.packet_reassembly.specs.Ipv6Fragment.{AreFragmentParts, HasNoFragment}
use Rattle.packet_reassembly.specs.declared.ip_frag_id.IpFragVersionSpecId.{IpFragVersionSpecId}
use Rattle.packet_reassembly.specs.declared.ip_frag_id.IpFragVersionSpecId.TheVariants.{Ipv4, Ipv6}
use Rattle.packet_reassembly.specs.declared.ip_fragment_slice.IpFragmentSlice.{IpFragmentSlice}
use Rattle.packet_reassembly.specs.declared.ipv6_fragment.Ipv6FragmentParts.{Ipv6FragmentParts}

-- The packet has all the bytes that its total length says: an IPv4 header of a fragment, and the
-- bytes of that. The header says which packet it is of, where it stands, whether more follow, what
-- was fragmented, and the ECN codepoint. Its bytes are the headers.
pub record HasIpv4Fragment (packet : List ℕ) (f : IpFragmentSlice) : Type 0 where
  pub header : Ipv4Header
  pub told : header.total_len ≢ 0
  pub enough : header.total_len ≤ length packet
  pub begins : BeginsWith IsIpv4Layout (ipv4_bytes header packet) header f.payload.now
  pub is_fragment : IsFragment header
  pub id : f.ip ≡ Ipv4 header.source header.destination header.protocol header.identification
  pub offset : f.offset ≡ header.fragment_offset
  pub more : f.more_fragments ≡ header.more_fragments
  pub next : f.next_header ≡ header.protocol
  pub ecn : f.ecn ≡ header.ecn
  pub headers : f.headers.now ≡ begins.front
  pub last_extension : f.last_extension ≡ length f.headers.now

-- The packet has all the bytes that its payload length says: an IPv6 header and what follows it,
-- extension headers, a fragment header, and the bytes of the fragment. The fragment header says
-- where it stands, whether more follow and what was fragmented; the lower 2 bits of the traffic
-- class are the ECN codepoint. All bytes before those of the fragment are the headers. Whether the
-- extension headers after the fragment header are whole makes no difference.
pub record HasIpv6Fragment (packet : List ℕ) (f : IpFragmentSlice) : Type 0 where
  pub header : Ipv6Header
  pub body : List ℕ
  pub enough : 40 + header.payload_length ≤ length packet
  pub begins : BeginsWith IsIpv6Layout (ipv6_trimmed header packet) header body
  pub parts : Ipv6FragmentParts
  pub are_parts : AreFragmentParts body header.next_header parts
  pub id : f.ip ≡ Ipv6 header.source header.destination parts.fragment.identification
  pub offset : f.offset ≡ parts.fragment.fragment_offset
  pub more : f.more_fragments ≡ parts.fragment.more_fragments
  pub next : f.next_header ≡ parts.fragment.next_header
  pub ecn : ecn_value f.ecn ≡ header.traffic_class % 2 ^ 2
  pub payload : f.payload.now ≡ parts.payload.now
  pub headers : f.headers.now ≡ begins.front
      ++ (parts.before.now ++ (parts.last.now ++ are_parts.begins.front))
  pub last_extension : f.last_extension ≡ 40 + length parts.before.now

abbrev pub HasIpFragment : List ℕ → IpFragmentSlice → Type 0
HasIpFragment packet f = HasIpv4Fragment packet f ⊎ HasIpv6Fragment packet f

-- the packet is an IPv4 packet with all its bytes that is no fragment
pub record IsWholeIpv4 (packet : List ℕ) : Type 0 where
  pub header : Ipv4Header
  pub payload : List ℕ
  pub told : header.total_len ≢ 0
  pub enough : header.total_len ≤ length packet
  pub begins : BeginsWith IsIpv4Layout (ipv4_bytes header packet) header payload
  pub is_whole : ¬ IsFragment header

-- the packet is an IPv6 packet with all its bytes that is no fragment
pub record IsWholeIpv6 (packet : List ℕ) : Type 0 where
  pub header : Ipv6Header
  pub body : List ℕ
  pub enough : 40 + header.payload_length ≤ length packet
  pub begins : BeginsWith IsIpv6Layout (ipv6_trimmed header packet) header body
  pub none : HasNoFragment body header.next_header

abbrev pub IsNoFragment : List ℕ → Type 0
IsNoFragment packet = IsWholeIpv4 packet ⊎ IsWholeIpv6 packet

-- The packet, trimmed at its payload length, ends within an extension header with no fragment
-- header before it that is not atomic. With one it is a fragment: if that is the first, it lacks a
-- part of the header chain (RFC 7112 section 5).
pub record EndsBeforeFragment (packet : List ℕ) (e : LenError) : Type 0 where
  pub ends : EndsInExtensions packet e
  pub undecided : ends.fragment ≡ None

-- Why it is not told whether a packet is a fragment: it is not sliced, for any reason but an
-- extension header that is incomplete after such a fragment header.
abbrev pub RefusesIpFragment : List ℕ → IpSliceError → Type 0
RefusesIpFragment packet (error.Empty e) = RefusesIp packet (error.Empty e)
RefusesIpFragment packet (error.UnexpectedVersion version) =
    RefusesIp packet (error.UnexpectedVersion version)
RefusesIpFragment packet (error.Ipv4Header e) = RefusesIp packet (error.Ipv4Header e)
RefusesIpFragment packet (error.Ipv6Header e) = RefusesIp packet (error.Ipv6Header e)
RefusesIpFragment packet (error.Packet e) = RefusesIp packet (error.Packet e)
RefusesIpFragment packet (error.Extensions e) = EndsBeforeFragment packet e

-- what a packet is: a fragment, or none, or why that is not told
abbrev pub ReadsIpFragment : List ℕ → Result (Option IpFragmentSlice) IpSliceError → Type 0
ReadsIpFragment packet (Ok (Some f)) = HasIpFragment packet f
ReadsIpFragment packet (Ok None) = IsNoFragment packet
ReadsIpFragment packet (Err e) = RefusesIpFragment packet e

-- a fragment, apart from where it lies in memory
pub record IpFragmentFields : Type 0 where
  pub ip : IpFragVersionSpecId
  pub offset : ℕ
  pub more_fragments : Bool
  pub next_header : ℕ
  pub ecn : IpEcn
  pub headers : List ℕ
  pub last_extension : ℕ
  pub payload : List ℕ

abbrev pub fragment_fields : IpFragmentSlice → IpFragmentFields
fragment_fields f = record {
  ip = f.ip;
  offset = f.offset;
  more_fragments = f.more_fragments;
  next_header = f.next_header;
  ecn = f.ecn;
  headers = f.headers.now;
  last_extension = f.last_extension;
  payload = f.payload.now;
}

abbrev pub ip_fragment_answer : Result (Option IpFragmentSlice) IpSliceError
    → Result (Option IpFragmentFields) IpSliceError
ip_fragment_answer answer = result_map_both (option_map fragment_fields) (λ e. e) answer
