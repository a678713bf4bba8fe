-- Laws of the sums of words: the other order of bytes, a changed byte, pieces exchanged or cut.
use Rattle.std.proofs.Common.{ℕ, zero, suc, List, [], ◌∷◌, ◌++◌, ◌≡◌, ◌≢◌, if◌then◌else◌, ◌==◌, ◌↔◌, ◌<◌, ◌≤◌, ◌+◌, ◌-◌, ◌*◌, ◌%◌, ◌∙◌, ap, arith, drop, drop-drop, length, refl, slice_index, slice_set, sum_by, sym, take, w16}
use Rattle.std.proofs.Math.ListN.{drop_of_length-le}
use Rattle.std.proofs.Math.Nat.{add-mul-mod_self_right, mod-add-mod}
use Rattle.std.proofs.lemmas.Bool.Decides.{nat_tests}
use Rattle.std.proofs.lemmas.List.{append-nil, length-drop, length-take, take-append-drop, take_rest}
use Rattle.std.proofs.lemmas.List.Sums.{sum_by-append, sum_by-cons}
use Rattle.std.specs.Int.{swap_bytes, to_be_bytes}
use Rattle.std.specs.List.{concat}
use Rattle.etherparse_base.specs.Bytes.{IsBytes, words_of}
use Rattle.etherparse_base.specs.WordSums.{AddsSlice, AddsSlices, CutsNoWord, Complements, ComplementsWithNoZero, IsSumOf, SumsToAllOnes, UpdatesChecksum, UpdatesChecksumWithNoZero}
use Rattle.etherparse_base.specs.WordSums.{checksum_of, folded_sum, little_endian_word_sum, network_order_word_sum, ones_complement_sum, updated_in_turn, weighted_byte_sum, with_no_zero}
use Rattle.etherparse_base.specs.Private.WideSums.{SameFold}
use Rattle.etherparse_base.proofs.FoldedSums.{folded_sum-within, folded_sum_value, stands_for_words}

-- the sum in network order has the same fold as 256 times the other
other_order : (bytes : List ℕ) → SameFold (256 * little_endian_word_sum bytes) (network_order_word_sum bytes)
other_order [] = record { apart = refl; none = omega arith; some = omega arith }
other_order (byte ∷ bytes) =
    let rest = other_order bytes in record { apart = omega arith; none = omega arith; some = omega arith }

-- the sum in network order is the other with its two bytes exchanged (RFC 1071 section 2 (B))
swap_bytes-folded_sum : (sum : ℕ) (bytes : List ℕ) → IsSumOf sum bytes → swap_bytes w16 (folded_sum sum) ≡ folded_sum (network_order_word_sum bytes)
swap_bytes-folded_sum sum bytes same = let order = other_order bytes in grind (arith, folded_sum_value)

-- the one is all ones if the other is
all_ones : (sum : ℕ) (bytes : List ℕ) → IsSumOf sum bytes → SumsToAllOnes bytes ↔ (folded_sum sum ≡ 65535)
all_ones sum bytes same =
    let swapped = swap_bytes-folded_sum sum bytes same in
    (λ ones. omega (arith, folded_sum-within sum), λ ones. omega arith)

-- all that is known of a checksum, by its value
pub complements : (sum checksum : ℕ) → checksum ≡ checksum_of sum → Complements sum checksum
complements sum checksum value =
    let within = folded_sum-within sum in record {
      value = value;
      completes = λ n same. omega (arith, folded_sum_value);
      network_order = λ bytes same. omega (arith, swap_bytes-folded_sum sum bytes same);
      all_ones = λ bytes same.
          let ones = all_ones sum bytes same in (λ all. omega (arith, ones.0 all), λ none. ones.1 (omega arith));
    }

-- all ones in the place of 0
with_no_zero-value : (n : ℕ) → with_no_zero n ≡ n + 65535 * (1 - n)
with_no_zero-value zero = omega arith
with_no_zero-value (suc n) = omega arith

pub complements_with_no_zero : (sum checksum answer : ℕ) → checksum ≡ checksum_of sum → answer ≡ with_no_zero checksum → ComplementsWithNoZero sum answer
complements_with_no_zero sum checksum answer complement is = record {
  value = is ∙ ap with_no_zero complement;
  completes = λ n same. omega (arith, with_no_zero-value, folded_sum_value);
  network_order = λ bytes same. omega (arith, with_no_zero-value, folded_sum-within sum, swap_bytes-folded_sum sum bytes same);
}

-- so it is the remainder's complement
with_no_zero-checksum_of : (sum : ℕ) → with_no_zero (checksum_of sum) ≡ 65535 - sum % 65535
with_no_zero-checksum_of sum = omega (arith, with_no_zero-value (checksum_of sum), folded_sum_value sum)

-- of the words after a change the remainder is that of the sum after it
same_remainder : (words old new sum : ℕ) → old ≤ sum → old ≤ words * 65535
    → (sum % 65535 + (words * 65535 - old) + new) % 65535 ≡ (sum - old + new) % 65535
same_remainder words old new sum within fits =
    let change : ℕ = words * 65535 - old + new in
    let remainder = λ (m n : ℕ) (e : m ≡ n). ap (λ k. k % 65535) e in
    remainder _ (sum % 65535 + change) (omega arith) ∙ mod-add-mod sum 65535 change
    ∙ remainder _ (sum - old + new + words * 65535) (omega arith) ∙ add-mul-mod_self_right (sum - old + new) words 65535

-- all that is known of an updated checksum that is never 0, by the plain update of so many words
pub updates_with_no_zero : (words checksum old new updated answer : ℕ) → checksum ≤ 65535 → old ≤ words * 65535
    → updated ≡ checksum_of ((65535 - checksum) + (words * 65535 - old) + new) → UpdatesChecksum checksum old new updated
    → answer ≡ (if checksum == 0 then 0 else with_no_zero updated) → UpdatesChecksumWithNoZero checksum old new answer
updates_with_no_zero words checksum old new updated answer fits old_fits value updates is =
    let there : checksum ≢ 0 → answer ≡ with_no_zero updated = λ some. grind (arith, nat_tests) in
    record {
      anew = λ sum within computed.
          let old_one : 65535 - checksum ≡ sum % 65535 = omega (arith, computed ∙ with_no_zero-checksum_of sum) in
          there (omega (arith, computed ∙ with_no_zero-checksum_of sum)) ∙ rw (value, with_no_zero-checksum_of, with_no_zero-checksum_of, old_one)
          (ap (λ n. 65535 - n) (same_remainder words old new sum within old_fits));
      received = λ some sum within before after.
          omega (arith, there some, with_no_zero-value updated, updates.received sum within before after, folded_sum_value);
    }

-- a fold counts in a sum as the number does
folded_sum-folded : (m n : ℕ) → folded_sum (folded_sum m + n) ≡ folded_sum (m + n)
folded_sum-folded m n = omega (arith, folded_sum_value m, folded_sum_value (folded_sum m + n), folded_sum_value (m + n))

-- words that change one after the other change as all at once
pub in_turn : (words checksum : ℕ) (old new : List ℕ) → checksum ≤ 65535 → IsBytes old → length old ≡ 2 * words → length new ≡ 2 * words
    → (network_order_word_sum old ≤ words * 65535) × (updated_in_turn checksum (words_of old) (words_of new)
    ≡ checksum_of ((65535 - checksum) + (words * 65535 - network_order_word_sum old) + network_order_word_sum new))
in_turn zero checksum [] [] fits bytes old new = (omega arith, omega (arith, folded_sum_value))
in_turn (suc words) checksum (a ∷ b ∷ old) (c ∷ d ∷ new) fits bytes m n =
    let first : ℕ = (65535 - checksum) + (65535 - (a * 256 + b)) + (c * 256 + d) in
    let change : ℕ = words * 65535 - network_order_word_sum old + network_order_word_sum new in
    let rest = in_turn words (checksum_of first) old new (omega arith) (λ i. bytes (suc (suc i))) (omega (arith, m)) (omega (arith, n)) in
    let all : first + change ≡ (65535 - checksum) + (suc words * 65535 - network_order_word_sum (a ∷ b ∷ old)) + network_order_word_sum (c ∷ d ∷ new) = omega (arith, bytes 0, bytes 1, rest.0) in
    let one : (65535 - checksum_of first) + (words * 65535 - network_order_word_sum old) + network_order_word_sum new ≡ folded_sum first + change = omega (arith, folded_sum-within first) in
    (omega (arith, bytes 0, bytes 1, rest.0), rest.1 ∙ ap (λ k. 65535 - k) (ap folded_sum one ∙ folded_sum-folded first change ∙ ap folded_sum all))
in_turn words checksum old new fits bytes m n = absurd (omega (arith, m, n))

-- of two sums that differ by one byte only one is a multiple of 65535
same_byte : (n place byte : ℕ) (bytes : List ℕ) → place < length bytes → slice_index bytes place < 256 → byte < 256 → (n + network_order_word_sum bytes) % 65535 ≡ 0
    → (n + network_order_word_sum (slice_set bytes place byte)) % 65535 ≡ 0 → byte ≡ slice_index bytes place
same_byte n zero byte (x ∷ bytes) within old new before after = omega arith
same_byte n (suc zero) byte (x ∷ y ∷ bytes) within old new before after = omega arith
same_byte n (suc (suc place)) byte (x ∷ y ∷ bytes) within old new before after =
    same_byte (n + 256 * x + y) place byte bytes (omega arith) old new (omega arith) (omega arith)
same_byte n place byte bytes within old new before after = absurd (omega arith)

-- a zero after the last byte adds nothing
pub weighted_byte_sum-padded : (weight other : ℕ) (bytes : List ℕ) → weighted_byte_sum weight other (bytes ++ 0 ∷ []) ≡ weighted_byte_sum weight other bytes
weighted_byte_sum-padded weight other [] = omega arith
weighted_byte_sum-padded weight other (byte ∷ bytes) = omega (arith, weighted_byte_sum-padded other weight bytes)

-- all that is known of a sum to which words were added, by its fold
pub adds_slice : (start answer : ℕ) (bytes : List ℕ) → ((k : ℕ) → slice_index bytes k < 256)
    → folded_sum answer ≡ folded_sum (start + little_endian_word_sum bytes) → AddsSlice start bytes answer
adds_slice start answer bytes are_bytes sum =
    let from_zero : start ≡ 0 → IsSumOf answer bytes = λ none. sum ∙ ap folded_sum (omega arith) in record {
      sum = sum;
      in_a_sum = stands_for_words start answer bytes sum;
      padded = stands_for_words start answer (bytes ++ 0 ∷ []) (sum ∙ ap (λ n. folded_sum (start + n)) (sym (weighted_byte_sum-padded 1 256 bytes)));
      network_order = λ none. swap_bytes-folded_sum answer bytes (from_zero none);
      all_ones = λ none. all_ones answer bytes (from_zero none);
      one_byte = λ ones changed change again.
          change.differs (same_byte 0 change.place change.byte bytes change.within (are_bytes change.place) change.is_byte
          (omega (arith, folded_sum_value)) (rw (← change.changed) (omega (arith, folded_sum_value))));
    }

-- after an even number of bytes a new word begins
weighted_byte_sum-append : (weight other : ℕ) (front rest : List ℕ) → length front % 2 ≡ 0
    → weighted_byte_sum weight other (front ++ rest) ≡ weighted_byte_sum weight other front + weighted_byte_sum weight other rest
weighted_byte_sum-append weight other [] rest h = omega arith
weighted_byte_sum-append weight other (x ∷ []) rest h = absurd (omega arith)
weighted_byte_sum-append weight other (x ∷ y ∷ front) rest h =
    omega (arith, weighted_byte_sum-append weight other front rest (omega arith))

pub little_endian_word_sum-append : (front rest : List ℕ) → length front % 2 ≡ 0
    → little_endian_word_sum (front ++ rest) ≡ little_endian_word_sum front + little_endian_word_sum rest
little_endian_word_sum-append front rest even = weighted_byte_sum-append 1 256 front rest even

pub network_order_word_sum-append : (front rest : List ℕ) → length front % 2 ≡ 0
    → network_order_word_sum (front ++ rest) ≡ network_order_word_sum front + network_order_word_sum rest
network_order_word_sum-append front rest even = weighted_byte_sum-append 256 1 front rest even

-- a sum of words has a complement as it is stored, with its two bytes exchanged
pub little_endian_word_sum-swapped : (checksum : ℕ) → checksum < 65536 → little_endian_word_sum (to_be_bytes w16 (swap_bytes w16 checksum)) ≡ checksum
little_endian_word_sum-swapped checksum fits = omega arith

-- a word that is written over two bytes 0 is added to the sum
pub little_endian_word_sum-written : (bytes : List ℕ) (place first second : ℕ) → place % 2 ≡ 0 → suc place < length bytes
    → slice_index bytes place ≡ 0 → slice_index bytes (suc place) ≡ 0
    → little_endian_word_sum (slice_set (slice_set bytes place first) (suc place) second) ≡ little_endian_word_sum bytes + (first + 256 * second)
little_endian_word_sum-written (x ∷ y ∷ bytes) zero first second even within a b = omega (arith, a, b)
little_endian_word_sum-written (x ∷ y ∷ bytes) (suc (suc place)) first second even within a b =
    omega (arith, little_endian_word_sum-written bytes place first second (omega arith) (omega arith) a b)
little_endian_word_sum-written bytes place first second even within a b = absurd (omega arith)

-- bytes sum to all ones once their checksum is stored where they have two bytes 0
pub sums_to_all_ones-written : (bytes : List ℕ) (place first second checksum : ℕ) → place % 2 ≡ 0 → suc place < length bytes
    → slice_index bytes place ≡ 0 → slice_index bytes (suc place) ≡ 0 → first + 256 * second ≡ checksum
    → folded_sum (little_endian_word_sum bytes + checksum) ≡ 65535 → SumsToAllOnes (slice_set (slice_set bytes place first) (suc place) second)
sums_to_all_ones-written bytes place first second checksum even within a b is completed =
    let stored = slice_set (slice_set bytes place first) (suc place) second in
    (all_ones (little_endian_word_sum stored) stored refl).1
    (rw (little_endian_word_sum-written bytes place first second even within a b) (rw is completed))

-- after the end there are no words
pub word_sum_past : (count : ℕ) (bytes : List ℕ) → length bytes ≤ count → little_endian_word_sum (drop count bytes) ≡ 0
word_sum_past count bytes past = ap little_endian_word_sum (drop_of_length-le bytes past)

-- numbers that stand for the words of pieces one after the other stand for those of all, where nothing is left
pub three_stand_for : (a b c all after_a after_b after_c : ℕ) → after_c ≡ 0 → SameFold (a + after_a) all → SameFold (b + after_b) after_a
    → SameFold (c + after_c) after_b → SameFold (a + b + c + 0) all
three_stand_for a b c all after_a after_b after_c none first second third =
    record { apart = omega arith; none = omega arith; some = omega arith }

-- the words of bytes cut at an even place
pub little_endian_word_sum-cut : (count : ℕ) (bytes : List ℕ) → count % 2 ≡ 0 → count ≤ length bytes
    → little_endian_word_sum (take count bytes) + little_endian_word_sum (drop count bytes) ≡ little_endian_word_sum bytes
little_endian_word_sum-cut count bytes even within =
    sym (little_endian_word_sum-append (take count bytes) (drop count bytes) (rw (length-take count bytes) (omega arith)))
    ∙ ap little_endian_word_sum (take-append-drop count bytes)

-- the words of pieces that cut no word are those of all their bytes
little_endian_word_sum-concat : (pieces : List (List ℕ)) → CutsNoWord pieces → sum_by little_endian_word_sum pieces ≡ little_endian_word_sum (concat pieces)
little_endian_word_sum-concat [] even = refl
little_endian_word_sum-concat (piece ∷ []) even = simp append-nil (omega arith)
little_endian_word_sum-concat (piece ∷ next ∷ pieces) even =
    let rest = little_endian_word_sum-concat (next ∷ pieces) even.1 in
    sum_by-cons little_endian_word_sum piece (next ∷ pieces) ∙ ap (λ n. little_endian_word_sum piece + n) rest ∙ sym (little_endian_word_sum-append piece (concat (next ∷ pieces)) even.0)

-- all that is known of the sum of pieces, by its fold
pub adds_slices : (pieces : List (List ℕ)) (answer : ℕ) → folded_sum answer ≡ ones_complement_sum pieces → AddsSlices pieces answer
adds_slices pieces answer sum = let whole : CutsNoWord pieces → IsSumOf answer (concat pieces) = λ even. sum ∙ ap folded_sum (little_endian_word_sum-concat pieces even) in record {
  sum = sum;
  exchanged = λ before after first second is.
      sum ∙ ap ones_complement_sum is ∙ ap folded_sum (simp (sum_by-append, sum_by-cons) (omega arith));
  cut = λ before after front back is even.
      sum ∙ ap ones_complement_sum is ∙ ap folded_sum (simp (sum_by-append, sum_by-cons) (omega (arith, little_endian_word_sum-append front back even)));
  joined = λ before after front back is even.
      sum ∙ ap ones_complement_sum is ∙ ap folded_sum (simp (sum_by-append, sum_by-cons) (omega (arith, little_endian_word_sum-append front back even)));
  whole = whole;
  all_ones = λ even. all_ones answer (concat pieces) (whole even);
}

-- the words of a front and of what follows it
pub ruleset cuts = (little_endian_word_sum-cut, word_sum_past, drop-drop, length-drop, take_rest)
