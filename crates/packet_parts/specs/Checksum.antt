-- What a receiver finds of the checksum of UDP, TCP, ICMP or ICMPv6.
use Rattle.std.specs.Prelude.{ℕ, ◌≡◌, ◌≢◌, ◌==◌, ◌<◌, ◌≤◌, ◌^◌, ◌⊎◌, List, [], ◌∷◌, ◌++◌}
use Rattle.std.specs.Prelude.{MatchOption, Option, Some, codes, drop, if◌then◌else◌, length}
use Rattle.std.specs.Prelude.{slice_index, slice_range, take}
use Rattle.std.specs.Int.{from_be_bytes, to_be_bytes, w16, w32}
use Rattle.etherparse.specs.WordSums.{ones_complement_sum}
use Rattle.packet_parts.specs.FinalDestination.{GoesToIpv4, GoesToIpv6}
use Rattle.packet_parts.specs.IpSlice.{destination_of, source_of}
use Rattle.packet_parts.specs.OriginalSource.{ComesFromIpv6}
use Rattle.packet_parts.specs.declared.checksum.Absence.{Absence}
use Rattle.packet_parts.specs.declared.checksum.Absence.TheVariants as absence
use Rattle.packet_parts.specs.declared.checksum.Verdict.{Verdict}
use Rattle.packet_parts.specs.declared.checksum.Verdict.TheVariants.{Right, Wrong, Absent}
use Rattle.packet_parts.specs.declared.ip_slice.IpHeaderSlice.{IpHeaderSlice}
use Rattle.packet_parts.specs.declared.ip_slice.IpHeaderSlice.TheVariants as header
use Rattle.packet_parts.specs.declared.ip_slice.IpSlice.{IpSlice}
use Rattle.packet_parts.specs.declared.ip_slice.LaxIpSlice.{LaxIpSlice}

-- The pseudo-header of IPv4 (RFC 768, RFC 9293 section 3.1): both addresses, a zero byte, the
-- number of the protocol, and the length of its header and data in 16 bits.
abbrev pub ipv4_pseudo_header : List ℕ → List ℕ → ℕ → ℕ → List ℕ
ipv4_pseudo_header source destination protocol len =
    source ++ (destination ++ (0 ∷ protocol ∷ to_be_bytes w16 len))

-- that of IPv6 (RFC 8200 section 8.1): both addresses, the length in 32 bits, three zero bytes and
-- the number
abbrev pub ipv6_pseudo_header : List ℕ → List ℕ → ℕ → ℕ → List ℕ
ipv6_pseudo_header source destination number len =
    source ++ (destination ++ (to_be_bytes w32 len ++ (0 ∷ 0 ∷ 0 ∷ number ∷ [])))

-- the length field of a UDP header, bytes 4 and 5: it counts header and data
abbrev pub udp_length : List ℕ → ℕ
udp_length bytes = from_be_bytes w16 (slice_range bytes 4 6)

-- the checksum field of a UDP header, bytes 6 and 7
abbrev pub udp_checksum : List ℕ → ℕ
udp_checksum bytes = from_be_bytes w16 (slice_range bytes 6 8)

-- the bytes are a UDP datagram and what comes after it: it ends where its length field says
abbrev pub BeginsWithDatagram : List ℕ → List ℕ → Type 0
BeginsWithDatagram bytes datagram = (8 ≤ udp_length bytes) × (udp_length bytes ≤ length bytes)
    × (datagram ≡ take (udp_length bytes) bytes)

-- The bytes of a payload that its checksum covers, besides a pseudo-header: of UDP (17) the
-- datagram; of TCP (6) a segment of at least 20 bytes; of ICMP (1) or, in IPv6, ICMPv6 (58), a
-- message of at least 4.
abbrev pub Covers : ℕ → ℕ → List ℕ → List ℕ → Type 0
Covers icmp number payload covered = ((number ≡ 17) × BeginsWithDatagram payload covered)
    ⊎ ((number ≡ 6) × (20 ≤ length payload) × (covered ≡ payload))
    ⊎ ((number ≡ icmp) × (4 ≤ length payload) × (covered ≡ payload))

-- a datagram with 0 for its checksum: it has none (RFC 768)
abbrev pub IsWithoutChecksum : ℕ → List ℕ → Type 0
IsWithoutChecksum number covered = (number ≡ 17) × (udp_checksum covered ≡ 0)

-- what sums to all ones over IPv4: with the pseudo-header, but for ICMP, which has none (RFC 792)
abbrev pub ipv4_pieces : List ℕ → List ℕ → ℕ → List ℕ → List (List ℕ)
ipv4_pieces source destination protocol covered = if protocol == 1 then covered ∷ []
    else ipv4_pseudo_header source destination protocol (length covered) ∷ covered ∷ []

-- a receiver finds the checksum right over IPv4; the 16 bits of a pseudo-header can tell the length
pub record IsRightIpv4 (source destination : List ℕ) (protocol : ℕ) (covered : List ℕ)
    : Type 0 where
  pub fits : protocol ≢ 1 → length covered < 2 ^ 16
  pub sum : ones_complement_sum (ipv4_pieces source destination protocol covered) ≡ 65535

-- the same over IPv6, where the length has 32 bits, also of ICMPv6 (RFC 4443 section 2.3), and
-- where a datagram has to have a checksum (RFC 8200 section 8.1)
pub record IsRightIpv6 (source destination : List ℕ) (number : ℕ) (covered : List ℕ)
    : Type 0 where
  pub there : ¬ IsWithoutChecksum number covered
  pub fits : length covered < 2 ^ 32
  pub sum : ones_complement_sum (ipv6_pseudo_header source destination number (length covered)
      ∷ covered ∷ []) ≡ 65535

-- the payload is of a protocol without a checksum that is known here, or is not all that its
-- checksum covers
abbrev pub IsAbsent : ℕ → ℕ → List ℕ → Absence → Type 0
IsAbsent icmp number payload absence.OtherProtocol =
    (number ≢ 17) × (number ≢ 6) × (number ≢ icmp)
IsAbsent icmp number payload absence.Incomplete = ((number ≡ 17) ⊎ (number ≡ 6) ⊎ (number ≡ icmp))
    × ((covered : List ℕ) → ¬ Covers icmp number payload covered)
IsAbsent icmp number payload absence.Fragment = ⊥
IsAbsent icmp number payload absence.NotComputed = ⊥
IsAbsent icmp number payload absence.UnknownDestination = ⊥

-- what is judged of the payload of an IPv4 packet: its checksum, which it has
pub record JudgesIpv4 (protocol : ℕ) (payload covered : List ℕ) : Type 0 where
  pub covers : Covers 1 protocol payload covered
  pub there : ¬ IsWithoutChecksum protocol covered

-- the verdict on the payload of an IPv4 packet that is no fragment
abbrev pub IsVerdictIpv4 : List ℕ → List ℕ → ℕ → List ℕ → Verdict → Type 0
IsVerdictIpv4 source destination protocol payload Right = (covered : List ℕ)
    × JudgesIpv4 protocol payload covered × IsRightIpv4 source destination protocol covered
IsVerdictIpv4 source destination protocol payload Wrong = (covered : List ℕ)
    × JudgesIpv4 protocol payload covered × ¬ IsRightIpv4 source destination protocol covered
IsVerdictIpv4 source destination protocol payload (Absent absence.NotComputed) =
    (covered : List ℕ) × Covers 1 protocol payload covered × IsWithoutChecksum protocol covered
IsVerdictIpv4 source destination protocol payload (Absent reason) =
    IsAbsent 1 protocol payload reason

-- the same of IPv6
abbrev pub IsVerdictIpv6 : List ℕ → List ℕ → ℕ → List ℕ → Verdict → Type 0
IsVerdictIpv6 source destination number payload Right = (covered : List ℕ)
    × Covers 58 number payload covered × IsRightIpv6 source destination number covered
IsVerdictIpv6 source destination number payload Wrong = (covered : List ℕ)
    × Covers 58 number payload covered × ¬ IsRightIpv6 source destination number covered
IsVerdictIpv6 source destination number payload (Absent reason) = IsAbsent 58 number payload reason

-- The same where an address that the checksum covers is unknown: then no checksum is right or
-- wrong. The source is unknown only if the destination is too, hence the reason.
abbrev pub IsVerdictOnUnknown : ℕ → List ℕ → Verdict → Type 0
IsVerdictOnUnknown number payload (Absent absence.UnknownDestination) =
    (covered : List ℕ) × Covers 58 number payload covered
IsVerdictOnUnknown number payload (Absent reason) = IsAbsent 58 number payload reason
IsVerdictOnUnknown number payload Right = ⊥
IsVerdictOnUnknown number payload Wrong = ⊥

-- the same between an original source and a final destination, each of which can be unknown
abbrev pub IsVerdictBetween : Option (List ℕ) → Option (List ℕ) → ℕ → List ℕ → Verdict → Type 0
IsVerdictBetween (Some source) (Some destination) number payload verdict =
    IsVerdictIpv6 source destination number payload verdict
IsVerdictBetween source destination number payload verdict =
    IsVerdictOnUnknown number payload verdict

-- The verdict on the payload of a packet that is no fragment and has this header and these
-- extension headers: between the original source and the final destination of the packet. Over IPv4
-- the source of the header is the original one.
abbrev pub IsVerdictOver : IpHeaderSlice → List ℕ → ℕ → List ℕ → Verdict → Type 0
IsVerdictOver (header.Ipv4 view) extensions = λ protocol payload verdict. (final : List ℕ)
    × GoesToIpv4 (destination_of (header.Ipv4 view)) (drop 20 view.slice.now) final
    × IsVerdictIpv4 (source_of (header.Ipv4 view)) final protocol payload verdict
IsVerdictOver (header.Ipv6 view) extensions = λ number payload verdict.
    (original final : Option (List ℕ))
    × ComesFromIpv6 (source_of (header.Ipv6 view)) (slice_index view.slice.now 6) extensions
    original
    × GoesToIpv6 (destination_of (header.Ipv6 view)) (slice_index view.slice.now 6) extensions final
    × IsVerdictBetween original final number payload verdict

-- the verdict on the payload of a packet in these parts, which may be a fragment
abbrev pub IsVerdict : IpSlice → Verdict → Type 0
IsVerdict slice verdict = MatchOption slice.fragment
    (IsVerdictOver slice.header slice.extensions.now slice.upper slice.payload.now verdict)
    (λ fragment. verdict ≡ Absent absence.Fragment)

-- the same of one that may not be whole: then it is not known that all is there that its checksum
-- covers
abbrev pub IsLaxVerdict : LaxIpSlice → Verdict → Type 0
IsLaxVerdict lax verdict = MatchOption lax.stop (IsVerdict lax.slice verdict)
    (λ e. verdict ≡ Absent absence.Incomplete)

-- how a verdict is displayed
abbrev pub verdict_text : Verdict → List ℕ
verdict_text Right = codes "right"
verdict_text Wrong = codes "wrong"
verdict_text (Absent reason) = codes "none"
