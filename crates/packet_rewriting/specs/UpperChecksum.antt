-- The checksum of UDP, TCP, ICMP or ICMPv6, as a sender computes it and writes it.
use Rattle.std.specs.Prelude.{ℕ, ◌≡◌, ◌≢◌, ◌==◌, ◌+◌, ◌<◌, ◌≤◌, ◌^◌, List, [], ◌∷◌, ◌++◌, codes}
use Rattle.std.specs.Prelude.{if◌then◌else◌, length, slice_index}
use Rattle.std.specs.Int.{from_be_bytes, to_be_bytes, w16}
use Rattle.etherparse.specs.HeaderChecksum.{with_part}
use Rattle.etherparse.specs.WordSums.{checksum_of, network_order_word_sum, with_no_zero}
use Rattle.packet_parts.specs.Checksum.{Covers, IsAbsent, ipv4_pseudo_header, ipv6_pseudo_header}
use Rattle.packet_parts.specs.declared.checksum.Absence.TheVariants as absence
use Rattle.packet_rewriting.specs.declared.checksum.ChecksumError.{ChecksumError}
use Rattle.packet_rewriting.specs.declared.checksum.ChecksumError.TheVariants as error

-- Where the checksum is in a header, in bytes from its start: 6 in UDP (17, RFC 768), 16 in TCP (6,
-- RFC 9293 section 3.1), 2 in ICMP (1, RFC 792) and ICMPv6 (58, RFC 4443 section 2.1).
abbrev pub checksum_place : ℕ → ℕ
checksum_place number = if number == 17 then 6 else if number == 6 then 16 else 2

-- the checksum that a header has
abbrev pub checksum_field : ℕ → List ℕ → ℕ
checksum_field number bytes =
    from_be_bytes w16 (slice_index bytes (checksum_place number)
    ∷ slice_index bytes (checksum_place number + 1) ∷ [])

-- the same bytes with another checksum
abbrev pub with_checksum : ℕ → ℕ → List ℕ → List ℕ
with_checksum number checksum bytes =
    with_part (checksum_place number) (to_be_bytes w16 checksum) bytes

-- The checksum of bytes whose own is 0: the complement of the plain ones-complement sum of their
-- words (RFC 1071 section 1). UDP sends 65535 for 0 (RFC 768, RFC 8200 section 8.1).
abbrev pub complement_of : ℕ → List ℕ → ℕ
complement_of number bytes = if number == 17
    then with_no_zero (checksum_of (network_order_word_sum bytes))
    else checksum_of (network_order_word_sum bytes)

-- what is summed before a segment over IPv4: its pseudo-header; nothing of ICMP, which has none
abbrev pub ipv4_before : List ℕ → List ℕ → ℕ → ℕ → List ℕ
ipv4_before source destination protocol len =
    if protocol == 1 then [] else ipv4_pseudo_header source destination protocol len

-- The checksum of a segment over IPv4, and of one over IPv6: it covers what comes before the
-- segment, and the segment with 0 in the place of the checksum.
abbrev pub ipv4_checksum_of : List ℕ → List ℕ → ℕ → List ℕ → ℕ
ipv4_checksum_of source destination protocol covered = complement_of protocol
    (ipv4_before source destination protocol (length covered) ++ with_checksum protocol 0 covered)

abbrev pub ipv6_checksum_of : List ℕ → List ℕ → ℕ → List ℕ → ℕ
ipv6_checksum_of source destination number covered = complement_of number
    (ipv6_pseudo_header source destination number (length covered)
    ++ with_checksum number 0 covered)

-- This is the checksum over IPv4 of what is covered of a segment, whose length the 16 bits of a
-- pseudo-header can tell.
pub record IsIpv4Checksum (source destination : List ℕ) (protocol : ℕ) (segment : List ℕ)
    (checksum : ℕ) : Type 0 where
  pub covered : List ℕ
  pub covers : Covers 1 protocol segment covered
  pub fits : protocol ≢ 1 → length covered < 2 ^ 16
  pub value : checksum ≡ ipv4_checksum_of source destination protocol covered

-- the same over IPv6, where the length has 32 bits
pub record IsIpv6Checksum (source destination : List ℕ) (number : ℕ) (segment : List ℕ)
    (checksum : ℕ) : Type 0 where
  pub covered : List ℕ
  pub covers : Covers 58 number segment covered
  pub fits : length covered < 2 ^ 32
  pub value : checksum ≡ ipv6_checksum_of source destination number covered

-- more bytes are covered than the pseudo-header can tell
abbrev pub IsTooLong : ℕ → ℕ → ℕ → List ℕ → Type 0
IsTooLong bits icmp number segment =
    (covered : List ℕ) × Covers icmp number segment covered × (2 ^ bits ≤ length covered)

-- why nothing of a segment is covered
abbrev pub CoversNothing : ℕ → ℕ → List ℕ → ChecksumError → Type 0
CoversNothing icmp number segment error.OtherProtocol =
    IsAbsent icmp number segment absence.OtherProtocol
CoversNothing icmp number segment error.Incomplete =
    IsAbsent icmp number segment absence.Incomplete
CoversNothing icmp number segment error.TooLong = ⊥

-- why a segment has no checksum over IPv4
abbrev pub RefusesIpv4Checksum : ℕ → List ℕ → ChecksumError → Type 0
RefusesIpv4Checksum protocol segment error.OtherProtocol =
    CoversNothing 1 protocol segment error.OtherProtocol
RefusesIpv4Checksum protocol segment error.Incomplete =
    CoversNothing 1 protocol segment error.Incomplete
RefusesIpv4Checksum protocol segment error.TooLong =
    (protocol ≢ 1) × IsTooLong 16 1 protocol segment

-- and over IPv6
abbrev pub RefusesIpv6Checksum : ℕ → List ℕ → ChecksumError → Type 0
RefusesIpv6Checksum number segment error.OtherProtocol =
    CoversNothing 58 number segment error.OtherProtocol
RefusesIpv6Checksum number segment error.Incomplete =
    CoversNothing 58 number segment error.Incomplete
RefusesIpv6Checksum number segment error.TooLong = IsTooLong 32 58 number segment

-- the segment becomes the same with this checksum, which is that over IPv4
pub record WritesIpv4Checksum (source destination : List ℕ) (protocol : ℕ) (old new : List ℕ)
    : Type 0 where
  pub checksum : ℕ
  pub computed : IsIpv4Checksum source destination protocol old checksum
  pub written : new ≡ with_checksum protocol checksum old

-- the same over IPv6
pub record WritesIpv6Checksum (source destination : List ℕ) (number : ℕ) (old new : List ℕ)
    : Type 0 where
  pub checksum : ℕ
  pub computed : IsIpv6Checksum source destination number old checksum
  pub written : new ≡ with_checksum number checksum old

-- the text of a refusal
abbrev pub checksum_error_text : ChecksumError → List ℕ
checksum_error_text error.OtherProtocol =
    codes "Checksum Error: The protocol has no checksum that is known here."
checksum_error_text error.Incomplete =
    codes "Checksum Error: Not all bytes that the checksum covers are there."
checksum_error_text error.TooLong =
    codes "Checksum Error: The pseudo-header has no room for the length."
