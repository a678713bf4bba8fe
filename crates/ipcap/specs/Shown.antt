-- What is shown of a packet.
use Rattle.std.specs.Prelude.{ℕ, ◌≡◌, ◌-◌, ◌<◌, ◌≤◌, ◌==◌, ◌&&◌, ◌↔◌, ◌⊎◌, Bool, false, true, not}
use Rattle.std.specs.Prelude.{IsTrue, List, MatchBool, MatchOption, Option, Some, None}
use Rattle.std.specs.Prelude.{if◌then◌else◌, length, slice_index, slice_range}
use Rattle.std.specs.Int.{from_be_bytes, w16}
use Rattle.std.specs.Option.{is_none}
use Rattle.etherparse.specs.WordSums.{SumsToAllOnes}
use Rattle.packet_parts.specs.Checksum.{IsLaxVerdict}
use Rattle.packet_parts.specs.IpSlice.{HasLaxIpParts, HasNoIpParts, HasWholeHeaders}
use Rattle.packet_parts.specs.IpSlice.{header_len_of, packet_len_of}
use Rattle.packet_parts.specs.declared.checksum.Verdict.TheVariants.{Absent, Wrong, Right}
use Rattle.packet_parts.specs.declared.checksum.Verdict.{Verdict}
use Rattle.packet_parts.specs.declared.ip_slice.IpHeaderSlice.{IpHeaderSlice}
use Rattle.packet_parts.specs.declared.ip_slice.IpHeaderSlice.TheVariants as header
use Rattle.packet_parts.specs.declared.ip_slice.IpSlice.{IpSlice}
use Rattle.packet_parts.specs.declared.ip_slice.IpSliceError.{IpSliceError}
use Rattle.packet_parts.specs.declared.ip_slice.IpSliceError.TheVariants as error
use Rattle.packet_parts.specs.declared.ip_slice.LaxIpSlice.{LaxIpSlice}
use Rattle.ipcap.specs.declared.shown.Detail.{Detail}
use Rattle.ipcap.specs.declared.shown.Detail.TheVariants.{Ports, Message, Nothing}
use Rattle.ipcap.specs.declared.shown.Shown.{Shown}

-- the hops left: the time to live in byte 8 (RFC 791 section 3.1), or the hop limit in byte 7
-- (RFC 8200 section 3)
abbrev pub hops_in : IpHeaderSlice → ℕ
hops_in (header.Ipv4 view) = slice_index view.slice.now 8
hops_in (header.Ipv6 view) = slice_index view.slice.now 7

-- the same of a packet
abbrev pub hops_of : IpSlice → ℕ
hops_of slice = hops_in slice.header

-- the length field is 0, and says nothing
abbrev pub has_no_length : IpSlice → Bool
has_no_length slice = packet_len_of slice.header == 0

-- how long the payload is by the length field, also where the capture cut it, or as it is there if
-- the field says nothing; or what stands after whole extension headers, where the capture ends
-- within another one
abbrev pub len_of : IpSlice → ℕ
len_of slice = if has_no_length slice then length slice.payload.now
    else packet_len_of slice.header - header_len_of slice

-- The payload begins with the ports of UDP (RFC 768) or TCP (RFC 9293): the shortest header is
-- there, or the ports alone if the payload goes on elsewhere.
abbrev pub HasPorts : Bool → ℕ → List ℕ → Type 0
HasPorts is_whole number payload =
    ((number ≡ 17) × ((if is_whole then 8 else 4) ≤ length payload))
    ⊎ ((number ≡ 6) × ((if is_whole then 20 else 4) ≤ length payload))

-- the payload begins with type and code of ICMP (RFC 792) or ICMPv6 (RFC 4443), and with a checksum
-- if it is whole
abbrev pub HasMessage : Bool → ℕ → ℕ → List ℕ → Type 0
HasMessage is_whole icmp number payload =
    (number ≡ icmp) × ((if is_whole then 4 else 2) ≤ length payload)

-- what is shown of the header that a payload of this number begins with
abbrev pub IsHeaderDetail : Bool → ℕ → ℕ → List ℕ → Detail → Type 0
IsHeaderDetail is_whole icmp number payload (Ports source destination) =
    HasPorts is_whole number payload
    × (source ≡ from_be_bytes w16 (slice_range payload 0 2))
    × (destination ≡ from_be_bytes w16 (slice_range payload 2 4))
IsHeaderDetail is_whole icmp number payload (Message kind code) =
    HasMessage is_whole icmp number payload
    × (kind ≡ slice_index payload 0) × (code ≡ slice_index payload 1)
IsHeaderDetail is_whole icmp number payload Nothing =
    ¬ HasPorts is_whole number payload × ¬ HasMessage is_whole icmp number payload

-- the number of ICMP over IPv4, and of ICMPv6
abbrev pub icmp_over : IpHeaderSlice → ℕ
icmp_over (header.Ipv4 view) = 1
icmp_over (header.Ipv6 view) = 58

-- the same of the payload of a packet; that of a later fragment begins with no header
abbrev pub IsDetail : Bool → IpSlice → Detail → Type 0
IsDetail is_whole slice detail = MatchBool slice.is_later_fragment (detail ≡ Nothing)
    (IsHeaderDetail is_whole (icmp_over slice.header) slice.upper slice.payload.now detail)

-- whether the checksum of an IPv4 header is right; IPv6 has none
abbrev pub IsHeaderVerdict : IpHeaderSlice → Option Bool → Type 0
IsHeaderVerdict (header.Ipv4 view) verdict =
    MatchOption verdict ⊥ (λ is_right. IsTrue is_right ↔ SumsToAllOnes view.slice.now)
IsHeaderVerdict (header.Ipv6 view) verdict = verdict ≡ None

-- a checksum is wrong
abbrev pub is_wrong_header : Option Bool → Bool
is_wrong_header None = false
is_wrong_header (Some is_right) = not is_right

abbrev pub is_wrong : Verdict → Bool
is_wrong Right = false
is_wrong Wrong = true
is_wrong (Absent reason) = false

-- the payload is there whole, and goes on in no other fragment
abbrev pub has_whole_payload : LaxIpSlice → Bool
has_whole_payload lax = is_none lax.stop && is_none lax.slice.fragment

-- what is shown of a packet in these parts: the header that the payload begins with, and verdicts
pub record Shows (shown : Shown) : Type 0 where
  pub detail : IsDetail (has_whole_payload shown.lax) shown.lax.slice shown.detail
  pub header_checksum : IsHeaderVerdict shown.lax.slice.header shown.is_header_right
  pub verdict : IsLaxVerdict shown.lax shown.verdict

-- It is shown although it is not whole: its length field asks for more bytes than are there, but
-- for no more than there were before the capture left this many out; or that field says nothing,
-- and if no byte is left out, what there is ends within no extension header.
abbrev pub IsShownAt : ℕ → LaxIpSlice → IpSliceError → Type 0
IsShownAt left_out lax (error.Packet e) =
    (e.required_len - e.len ≤ left_out) ⊎ IsTrue (has_no_length lax.slice)
IsShownAt left_out lax (error.Extensions e) = IsTrue (has_no_length lax.slice)
    × ((0 < left_out) ⊎ HasWholeHeaders lax.slice.header lax.slice)
IsShownAt left_out lax e = ⊥

-- this is shown of a packet, of which the capture left this many bytes out
pub record IsShown (left_out : ℕ) (packet : List ℕ) (shown : Shown) : Type 0 where
  pub parts : HasLaxIpParts packet shown.lax
  pub why : MatchOption shown.lax.stop (Unit {0}) (IsShownAt left_out shown.lax)
  pub shows : Shows shown

-- the packet is not shown for this reason
pub record IsNotWhole (left_out : ℕ) (packet : List ℕ) (e : IpSliceError) : Type 0 where
  pub lax : LaxIpSlice
  pub parts : HasLaxIpParts packet lax
  pub stop : lax.stop ≡ Some e
  pub why : ¬ IsShownAt left_out lax e

-- why a packet is refused: there are no parts of it, or it is not whole and not shown
abbrev pub IsRefused : ℕ → List ℕ → IpSliceError → Type 0
IsRefused left_out packet e = HasNoIpParts packet e ⊎ IsNotWhole left_out packet e
