-- A segment with the checksum that it should have is right.
use Rattle.std.proofs.Common.{ℕ, false, ◌≡◌, ◌<◌, ◌≤◌, ◌+◌, ◌%◌, ◌∙◌, ◌==◌, List, [], ◌∷◌, ap, arith, if◌then◌else◌, inl, inr, length, length-set, length-take, refl, sym, subst, take, suc, zero, slice_set}
use Rattle.packet_parts.specs.Checksum.{BeginsWithDatagram, Covers, IsVerdictIpv4, IsVerdictIpv6, IsWithoutChecksum, ipv4_pseudo_header, ipv6_pseudo_header, udp_length}
use Rattle.packet_parts.specs.declared.checksum.Verdict.TheVariants.{Right}
use Rattle.etherparse.specs.WordSums.{ones_complement_sum}
use Rattle.packet_rewriting.proofs.ChecksumWords.{completed, even_before, even_header, in_pieces}
use Rattle.packet_rewriting.specs.UpperChecksum.{IsIpv4Checksum, IsIpv6Checksum, checksum_place, ipv4_before, with_checksum}

-- bytes are cut before or after one of them is set
pub take_of_set : (n : ℕ) (bytes : List ℕ) (place byte : ℕ) → slice_set (take n bytes) place byte ≡ take n (slice_set bytes place byte)
take_of_set zero bytes place byte = refl
take_of_set (suc n) [] place byte = refl
take_of_set (suc n) (x ∷ bytes) zero byte = refl
take_of_set (suc n) (x ∷ bytes) (suc place) byte = ap (λ xs. x ∷ xs) (take_of_set n bytes place byte)

-- a datagram has the length that it had before its checksum was written
datagram_written : (segment covered : List ℕ) (checksum : ℕ) → BeginsWithDatagram segment covered
    → BeginsWithDatagram (with_checksum 17 checksum segment) (with_checksum 17 checksum covered)
datagram_written (a ∷ b ∷ c ∷ d ∷ e ∷ f ∷ g ∷ h ∷ rest) covered checksum begins = (
  begins.0,
  begins.1,
  ap (with_checksum 17 checksum) begins.2 ∙ ap (λ xs. slice_set xs 7 (checksum % 256)) (take_of_set _ _ 6 _) ∙ take_of_set _ _ 7 _,
)
datagram_written segment covered checksum begins = absurd (omega (arith, begins.0, begins.1))

-- what is covered has room for a checksum
pub covers_enough : (icmp number : ℕ) (segment covered : List ℕ) → checksum_place icmp ≡ 2 → Covers icmp number segment covered → checksum_place number + 2 ≤ length covered
covers_enough icmp number segment covered two (inl (is, begins)) = rw is (omega (arith, ap length begins.2, length-take (udp_length segment) segment, begins.0, begins.1))
covers_enough icmp number segment covered two (inr (inl (is, least, all))) = rw is (omega (arith, least, ap length all))
covers_enough icmp number segment covered two (inr (inr (is, least, all))) = rw (is, two) (omega (arith, least, ap length all))

-- as many bytes, with a checksum
pub same_length : (number checksum : ℕ) (covered : List ℕ) → length (with_checksum number checksum covered) ≡ length covered
same_length number checksum covered = length-set _ _ _ ∙ length-set _ _ _

-- what is covered of a segment is covered of it with another checksum
pub covers_written : (icmp number : ℕ) (segment covered : List ℕ) (checksum : ℕ) → Covers icmp number segment covered
    → Covers icmp number (with_checksum number checksum segment) (with_checksum number checksum covered)
covers_written icmp number segment covered checksum (inl (is, begins)) =
    inl (is, rw is (datagram_written segment covered checksum begins))
covers_written icmp number segment covered checksum (inr (inl (is, least, all))) =
    inr (inl (is, rw (same_length number checksum segment) least, ap (with_checksum number checksum) all))
covers_written icmp number segment covered checksum (inr (inr (is, least, all))) =
    inr (inr (is, rw (same_length number checksum segment) least, ap (with_checksum number checksum) all))

-- a datagram whose checksum is not 0 has one
pub has_checksum : (number checksum : ℕ) (covered : List ℕ) → checksum_place number + 2 ≤ length covered → checksum < 65536 → (number ≡ 17 → 0 < checksum)
    → ¬ IsWithoutChecksum number (with_checksum number checksum covered)
has_checksum number checksum (a ∷ b ∷ c ∷ d ∷ e ∷ f ∷ g ∷ h ∷ rest) enough fits some none =
    let zero_field = rw none.0 at none.1 in omega (arith, some none.0, fits, zero_field)
has_checksum number checksum covered enough fits some none = absurd (omega (arith, rw none.0 at enough))

-- over IPv4
pub right_ipv4 : (source destination : List ℕ) (protocol checksum : ℕ) (old : List ℕ) → length source ≡ 4 → length destination ≡ 4
    → IsIpv4Checksum source destination protocol old checksum → IsVerdictIpv4 source destination protocol (with_checksum protocol checksum old) Right
right_ipv4 source destination protocol checksum old four other computed =
    let covered = computed.covered in
    let written = with_checksum protocol checksum covered in
    let header = λ (n : ℕ). ipv4_pseudo_header source destination protocol n in
    let even : length (header (length covered)) % 2 ≡ 0 = even_header source destination _ (omega (arith, four)) (omega (arith, other)) refl in
    let enough = covers_enough 1 protocol old covered refl computed.covers in
    let done = completed protocol (ipv4_before source destination protocol (length covered)) covered checksum (even_before (protocol == 1) _ even) enough computed.value in
    let same = same_length protocol checksum covered in (
      written,
      record { covers = covers_written 1 protocol old covered checksum computed.covers; there = has_checksum protocol checksum covered enough done.0 done.2 },
      record {
        fits = λ long. rw same (computed.fits long);
        sum = subst (λ n. ones_complement_sum (if protocol == 1 then written ∷ [] else header n ∷ written ∷ []) ≡ 65535) (sym same)
            (in_pieces (protocol == 1) (header (length covered)) written even done.1);
      },
    )

-- and over IPv6
pub right_ipv6 : (source destination : List ℕ) (number checksum : ℕ) (old : List ℕ) → length source ≡ 16 → length destination ≡ 16
    → IsIpv6Checksum source destination number old checksum → IsVerdictIpv6 source destination number (with_checksum number checksum old) Right
right_ipv6 source destination number checksum old four other computed =
    let covered = computed.covered in
    let written = with_checksum number checksum covered in
    let header = λ (n : ℕ). ipv6_pseudo_header source destination number n in
    let even : length (header (length covered)) % 2 ≡ 0 = even_header source destination _ (omega (arith, four)) (omega (arith, other)) refl in
    let enough = covers_enough 58 number old covered refl computed.covers in
    let done = completed number (header (length covered)) covered checksum even enough computed.value in
    let same = same_length number checksum covered in (
      written,
      covers_written 58 number old covered checksum computed.covers,
      record {
        there = has_checksum number checksum covered enough done.0 done.2;
        fits = rw same computed.fits;
        sum = subst (λ n. ones_complement_sum (header n ∷ written ∷ []) ≡ 65535) (sym same) (in_pieces false (header (length covered)) written even done.1);
      },
    )
