-- A checksum of an upper layer that was right is right after an update.
use Rattle.std.proofs.Common.{ℕ, Bool, true, false, ◌≡◌, ◌≢◌, ◌<◌, ◌≤◌, ◌+◌, ◌-◌, ◌%◌, ◌∙◌, ◌==◌, ◌⊎◌, List, [], ◌∷◌, ◌++◌, ap, append-nil, arith, if◌then◌else◌, inl, inr, length, refl, sym, subst, sum_by, w16}
use Rattle.std.specs.Int.{from_be_bytes, to_be_bytes}
use Rattle.std.proofs.lemmas.Bool.Decides.{nat_tests}
use Rattle.etherparse.proofs.WordSumLaws.{adds_slices, network_order_word_sum-append}
use Rattle.etherparse.specs.WordSums.{SumsToAllOnes, UpdatesChecksum, UpdatesChecksumWithNoZero, folded_sum, little_endian_word_sum, network_order_word_sum, ones_complement_sum, updated_checksum, updated_checksum_of_words, with_no_zero}
use Rattle.packet_parts.specs.Checksum.{Covers, IsRightIpv4, IsVerdictIpv4, IsWithoutChecksum, ipv4_pseudo_header, udp_checksum, udp_length}
use Rattle.packet_parts.specs.declared.checksum.Verdict.TheVariants.{Right}
use Rattle.std.proofs.lemmas.List.{get_or-take}
use Rattle.packet_rewriting.proofs.ChecksumWords.{even_header, in_pieces, stored-words, with_checksum-words, with_no_zero-value}
use Rattle.packet_rewriting.proofs.RightChecksums.{covers_enough, covers_written, has_checksum, same_length}
use Rattle.packet_rewriting.specs.Fields.{UpdatesUpper, updated_upper, with_updated}
use Rattle.packet_rewriting.specs.UpperChecksum.{checksum_field, checksum_place, with_checksum}

-- a number is that of UDP or not
pub is_udp : (number : ℕ) → (number == 17) ≡ true → number ≡ 17
is_udp number e = grind (arith, nat_tests, e)

pub is_no_udp : (number : ℕ) → (number == 17) ≡ false → number ≢ 17
is_no_udp number e is = grind (arith, nat_tests, e, is)

-- what a receiver sums keeps its fold
received : (udp : Bool) (number checksum answer old new sum : ℕ) → (number == 17) ≡ udp → UpdatesUpper number checksum old new answer → (number ≡ 17 → checksum ≢ 0)
    → old ≤ sum → 0 < sum → 0 < sum - old + new → folded_sum (sum - old + new + answer) ≡ folded_sum (sum + checksum)
received true number checksum answer old new sum e updates there within some after = (updates.udp (is_udp number e)).received (there (is_udp number e)) sum within some after
received false number checksum answer old new sum e updates there within some after = (updates.other (is_no_udp number e)).received sum within some after

-- a sum that is all ones with its checksum is so with the updated one
pub kept : (number checksum answer old new rest : ℕ) → UpdatesUpper number checksum old new answer → (number ≡ 17 → checksum ≢ 0) → 0 < rest
    → folded_sum (old + rest + checksum) ≡ 65535 → folded_sum (new + rest + answer) ≡ 65535
kept number checksum answer old new rest updates there some ones =
    let after : new + rest + answer ≡ old + rest - old + new + answer = omega arith in
    ap folded_sum after ∙ received (number == 17) number checksum answer old new (old + rest) refl updates there (omega arith) (omega (arith, some)) (omega (arith, some)) ∙ ones

-- the same with what comes before the payload, where the words change, and the payload
pub kept_in : (number answer : ℕ) (front next covered : List ℕ) (old new rest : ℕ) → length front % 2 ≡ 0 → length next % 2 ≡ 0
    → network_order_word_sum front ≡ old + rest → network_order_word_sum next ≡ new + rest → 0 < rest → checksum_place number + 2 ≤ length covered → answer < 65536
    → UpdatesUpper number (checksum_field number covered) old new answer → (number ≡ 17 → checksum_field number covered ≢ 0)
    → SumsToAllOnes (front ++ covered) → SumsToAllOnes (next ++ with_checksum number answer covered)
kept_in number answer front next covered old new rest even even_next words next_words some enough fits updates there ones =
    let zeros = network_order_word_sum (with_checksum number 0 covered) in
    let checksum = checksum_field number covered in
    let whole : network_order_word_sum (front ++ covered) ≡ old + (rest + zeros) + checksum =
    omega (arith, words, network_order_word_sum-append front covered even, stored-words number covered enough) in
    let after : network_order_word_sum (next ++ with_checksum number answer covered) ≡ new + (rest + zeros) + answer =
    omega (arith, next_words, network_order_word_sum-append next (with_checksum number answer covered) even_next, with_checksum-words number answer covered fits enough) in
    ap folded_sum after ∙ kept number checksum answer old new (rest + zeros) updates there (omega (arith, some)) (sym (ap folded_sum whole) ∙ ones)

-- whole pieces are summed as one
pub of_pieces : (front covered : List ℕ) → length front % 2 ≡ 0 → ones_complement_sum (front ∷ covered ∷ []) ≡ 65535 → SumsToAllOnes (front ++ covered)
of_pieces front covered even ones =
    rw (sym (append-nil covered)) (((adds_slices (front ∷ covered ∷ []) (sum_by little_endian_word_sum (front ∷ covered ∷ [])) refl).all_ones (even, tt)).1 ones)

-- the words of a pseudo-header of IPv4
pub header_words : (source destination : List ℕ) (number : ℕ) (len : List ℕ) → length source % 2 ≡ 0 → length destination % 2 ≡ 0
    → network_order_word_sum (source ++ (destination ++ (0 ∷ number ∷ len))) ≡ network_order_word_sum source + network_order_word_sum destination + (number + network_order_word_sum len)
header_words source destination number len even other =
    omega (arith, network_order_word_sum-append source (destination ++ (0 ∷ number ∷ len)) even, network_order_word_sum-append destination (0 ∷ number ∷ len) other)

-- what is summed over IPv4, with this pseudo-header
abbrev pub pieces : ℕ → List ℕ → List ℕ → List (List ℕ)
pieces number header covered = if number == 1 then covered ∷ [] else header ∷ covered ∷ []

pub other_pieces : (number : ℕ) (header covered : List ℕ) → number ≢ 1 → pieces number header covered ≡ header ∷ covered ∷ []
other_pieces number header covered other = grind (arith, nat_tests, other)

-- with pseudo-headers, in which one address is another one
pub right_ipv4 : (number answer : ℕ) (source destination next_source next_destination covered : List ℕ) (old new rest : ℕ) → (number ≡ 17) ⊎ (number ≡ 6)
    → length source ≡ 4 → length destination ≡ 4 → length next_source ≡ 4 → length next_destination ≡ 4
    → network_order_word_sum source + network_order_word_sum destination ≡ old + rest → network_order_word_sum next_source + network_order_word_sum next_destination ≡ new + rest
    → checksum_place number + 2 ≤ length covered → answer < 65536 → UpdatesUpper number (checksum_field number covered) old new answer
    → (number ≡ 17 → checksum_field number covered ≢ 0) → IsRightIpv4 source destination number covered → IsRightIpv4 next_source next_destination number (with_checksum number answer covered)
right_ipv4 number answer source destination next_source next_destination covered old new rest upper a b c d words next_words enough fits updates there right =
    let len = length covered in
    let other : number ≢ 1 = λ is. elim upper [ inl is_udp ↦ omega (arith, is, is_udp) | inr is_tcp ↦ omega (arith, is, is_tcp) ] in
    let written = with_checksum number answer covered in
    let same = same_length number answer covered in
    let some : ℕ = number + network_order_word_sum (to_be_bytes w16 len) in
    let positive : 0 < number = elim upper [ inl is_udp ↦ omega (arith, is_udp) | inr is_tcp ↦ omega (arith, is_tcp) ] in
    let header = λ (s e : List ℕ). ipv4_pseudo_header s e number len in
    let even = even_header source destination (0 ∷ number ∷ to_be_bytes w16 len) (omega (arith, a)) (omega (arith, b)) refl in
    let even_next = even_header next_source next_destination (0 ∷ number ∷ to_be_bytes w16 len) (omega (arith, c)) (omega (arith, d)) refl in
    let sums = subst (λ pieces. ones_complement_sum pieces ≡ 65535) (other_pieces number (header source destination) covered other) right.sum in
    let ones = kept_in number answer (header source destination) (header next_source next_destination) covered old new (rest + some) even even_next
    (omega (arith, words, header_words source destination number (to_be_bytes w16 len) (omega (arith, a)) (omega (arith, b))))
    (omega (arith, next_words, header_words next_source next_destination number (to_be_bytes w16 len) (omega (arith, c)) (omega (arith, d))))
    (omega (arith, positive)) enough fits updates there (of_pieces (header source destination) covered even sums) in
    record {
      fits = λ long. rw same (right.fits long);
      sum = subst (λ n. ones_complement_sum (pieces number (ipv4_pseudo_header next_source next_destination number n) written) ≡ 65535) (sym same)
          (subst (λ pieces. ones_complement_sum pieces ≡ 65535) (sym (other_pieces number (header next_source next_destination) written other))
          (in_pieces false (header next_source next_destination) written even_next ones));
    }

-- the updated checksum fits sixteen bits, and that of UDP is not 0 if there was one
pub updated_fits : (words number checksum : ℕ) (old new : List ℕ) → updated_upper words number checksum old new < 65536
updated_fits words number checksum old new = grind (arith, nat_tests, with_no_zero-value)

pub updated_there : (words number checksum : ℕ) (old new : List ℕ) → number ≡ 17 → checksum ≢ 0 → 0 < updated_upper words number checksum old new
updated_there words number checksum old new is there = grind (arith, nat_tests, is, there, with_no_zero-value)

-- the checksum of a datagram that has one
udp_field : (covered : List ℕ) → 8 ≤ length covered → udp_checksum covered ≡ checksum_field 17 covered
udp_field (a ∷ b ∷ c ∷ d ∷ e ∷ f ∷ g ∷ h ∷ rest) enough = refl
udp_field covered enough = absurd (omega (arith, enough))

pub field_there : (number : ℕ) (covered : List ℕ) → checksum_place number + 2 ≤ length covered → ¬ IsWithoutChecksum number covered → number ≡ 17 → checksum_field number covered ≢ 0
field_there number covered enough there is zero_field = there (is, udp_field covered (rw is at enough) ∙ rw is at zero_field)

-- what is covered has the checksum of the payload
pub same_field : (icmp number : ℕ) (payload covered : List ℕ) → Covers icmp number payload covered → checksum_field number covered ≡ checksum_field number payload
same_field icmp number payload covered (inl (is, begins)) =
    rw (is, begins.2) (rw (get_or-take (udp_length payload) payload 6 0 (omega (arith, begins.0)), get_or-take (udp_length payload) payload 7 0 (omega (arith, begins.0))) refl)
same_field icmp number payload covered (inr (inl (is, least, all))) = ap (checksum_field number) all
same_field icmp number payload covered (inr (inr (is, least, all))) = ap (checksum_field number) all

-- a payload that is right with its pseudo-header is so with one address changed in that, and its checksum updated
pub verdict_kept : (words number : ℕ) (source destination next_source next_destination old new payload : List ℕ) (rest : ℕ) → (number ≡ 17) ⊎ (number ≡ 6)
    → length source ≡ 4 → length destination ≡ 4 → length next_source ≡ 4 → length next_destination ≡ 4
    → network_order_word_sum source + network_order_word_sum destination ≡ network_order_word_sum old + rest
    → network_order_word_sum next_source + network_order_word_sum next_destination ≡ network_order_word_sum new + rest
    → UpdatesUpper number (checksum_field number payload) (network_order_word_sum old) (network_order_word_sum new) (updated_upper words number (checksum_field number payload) old new)
    → IsVerdictIpv4 source destination number payload Right → IsVerdictIpv4 next_source next_destination number (with_updated words number old new payload) Right
verdict_kept words number source destination next_source next_destination old new payload rest upper a b c d words_are next_words updates (covered, judges, right) =
    let answer = updated_upper words number (checksum_field number payload) old new in
    let enough = covers_enough 1 number payload covered refl judges.covers in
    let same = same_field 1 number payload covered judges.covers in
    let there = field_there number covered enough judges.there in
    let fits = updated_fits words number (checksum_field number payload) old new in (
      with_checksum number answer covered,
      record {
        covers = covers_written 1 number payload covered answer judges.covers;
        there = has_checksum number answer covered enough fits (λ is. updated_there words number _ old new is (λ zero_field. there is (same ∙ zero_field)));
      },
      right_ipv4 number answer source destination next_source next_destination covered _ _ rest upper a b c d words_are next_words enough fits
          (subst (λ n. UpdatesUpper number n (network_order_word_sum old) (network_order_word_sum new) answer) (sym same) updates) there right,
    )

-- what is covered of neither UDP nor TCP is an ICMP message
of_icmp : (number : ℕ) (payload covered : List ℕ) → number ≢ 17 → number ≢ 6 → Covers 1 number payload covered → number ≡ 1
of_icmp number payload covered no_udp no_tcp (inl (is, begins)) = absurd (no_udp is)
of_icmp number payload covered no_udp no_tcp (inr (inl (is, least, all))) = absurd (no_tcp is)
of_icmp number payload covered no_udp no_tcp (inr (inr (is, least, all))) = is

-- a payload whose checksum does not cover the addresses stays right
pub verdict_of_other : (number : ℕ) (source destination next_source next_destination payload : List ℕ) → number ≢ 17 → number ≢ 6
    → IsVerdictIpv4 source destination number payload Right → IsVerdictIpv4 next_source next_destination number payload Right
verdict_of_other number source destination next_source next_destination payload no_udp no_tcp (covered, judges, right) =
    let icmp = of_icmp number payload covered no_udp no_tcp judges.covers in
    let old : IsRightIpv4 source destination 1 covered = rw icmp at right in
    let new : IsRightIpv4 next_source next_destination 1 covered = record { fits = old.fits; sum = old.sum } in
    (covered, judges, subst (λ n. IsRightIpv4 next_source next_destination n covered) (sym icmp) new)

-- two bytes are one word
pair_word : (bytes : List ℕ) → length bytes ≡ 2 → network_order_word_sum bytes ≡ from_be_bytes w16 bytes
pair_word (a ∷ b ∷ []) two = omega arith
pair_word bytes two = absurd (omega (arith, two))

-- the update for one word, but of UDP
updated_other : (number checksum : ℕ) (old new : List ℕ) → number ≢ 17 → updated_upper 1 number checksum old new ≡ updated_checksum_of_words 1 checksum old new
updated_other number checksum old new other = grind (arith, nat_tests, other)

pub word_updated : (number checksum : ℕ) (old new : List ℕ) → length old ≡ 2 → length new ≡ 2 → number ≢ 17
    → updated_checksum checksum (from_be_bytes w16 old) (from_be_bytes w16 new) ≡ updated_upper 1 number checksum old new
word_updated number checksum old new a b other = sym (updated_other number checksum old new other ∙ rw (pair_word old a, pair_word new b) refl)

pub word_updates : (number checksum answer : ℕ) (old new : List ℕ) → length old ≡ 2 → length new ≡ 2 → number ≢ 17
    → UpdatesChecksum checksum (from_be_bytes w16 old) (from_be_bytes w16 new) answer → UpdatesUpper number checksum (network_order_word_sum old) (network_order_word_sum new) answer
word_updates number checksum answer old new a b other updates = record { udp = λ is. absurd (other is); other = λ _. rw (pair_word old a, pair_word new b) updates }

-- and of UDP
pub word_updated_udp : (number checksum : ℕ) (old new : List ℕ) → length old ≡ 2 → length new ≡ 2 → number ≡ 17
    → (if checksum == 0 then 0 else with_no_zero (updated_checksum checksum (from_be_bytes w16 old) (from_be_bytes w16 new))) ≡ updated_upper 1 number checksum old new
word_updated_udp number checksum old new a b is = rw (is, pair_word old a, pair_word new b) refl

pub word_updates_udp : (number checksum answer : ℕ) (old new : List ℕ) → length old ≡ 2 → length new ≡ 2 → number ≡ 17
    → UpdatesChecksumWithNoZero checksum (from_be_bytes w16 old) (from_be_bytes w16 new) answer
    → UpdatesUpper number checksum (network_order_word_sum old) (network_order_word_sum new) answer
word_updates_udp number checksum answer old new a b is updates = record { udp = λ _. rw (pair_word old a, pair_word new b) updates; other = λ other. absurd (other is) }
