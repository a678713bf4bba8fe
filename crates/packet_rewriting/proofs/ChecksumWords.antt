-- The words of bytes with another checksum in them.
use Rattle.std.proofs.Common.{ℕ, zero, suc, Bool, true, false, ◌≡◌, ◌≢◌, ◌<◌, ◌≤◌, ◌+◌, ◌-◌, ◌*◌, ◌%◌, ◌/◌, ◌∙◌, ◌==◌, List, [], ◌∷◌, ◌++◌, add_comm, ap, append_assoc, append-nil, arith, drop, drop-drop, if◌then◌else◌, length, length-append, length-set, refl, slice_set, slice_index, sum_by, sym, take, take-append-drop}
use Rattle.std.proofs.lemmas.Bool.Decides.{nat_tests}
use Rattle.std.proofs.lemmas.List.{drop-set-lt, take_more_set}
use Rattle.etherparse.proofs.FoldedSums.{folded_sum_value}
use Rattle.etherparse.proofs.WordSumLaws.{adds_slices, little_endian_word_sum-append, network_order_word_sum-append}
use Rattle.etherparse.specs.HeaderChecksum.{with_part}
use Rattle.etherparse.specs.WordSums.{AddsSlice, IsSumOf, StandsForWords, SumsToAllOnes, checksum_of, folded_sum, little_endian_word_sum, network_order_word_sum, ones_complement_sum, with_no_zero}
use Rattle.packet_rewriting.specs.UpperChecksum.{checksum_field, checksum_place, complement_of, with_checksum}

-- a part that is written over others stands between what is before it and what is after it
pub overwritten : (place : ℕ) (part bytes : List ℕ) → place + length part ≤ length bytes
    → with_part place part bytes ≡ take place bytes ++ (part ++ drop (length part) (drop place bytes))
overwritten place [] bytes within = sym (take-append-drop place bytes)
overwritten place (b ∷ part) bytes within =
    let rest : drop (length part) (drop (place + 1) (slice_set bytes place b)) ≡ drop (suc (length part)) (drop place bytes) =
    ap (drop (length part)) (drop-set-lt (place + 1) bytes place b (omega arith)) ∙ drop-drop (length part) (place + 1) bytes
    ∙ ap (λ n. drop n bytes) (omega arith) ∙ sym (drop-drop (suc (length part)) place bytes) in
    overwritten (place + 1) part (slice_set bytes place b) (omega (arith, within, length-set bytes place b))
    ∙ rw (take_more_set bytes place b (omega arith), rest) (append_assoc (take place bytes) (b ∷ []) (part ++ drop (suc (length part)) (drop place bytes)))

-- with 0 for a word, the words are those before it and those after it
zeroed-suc : (bytes : List ℕ) (place : ℕ) → place % 2 ≡ 0 → place + 2 ≤ length bytes
    → little_endian_word_sum (slice_set (slice_set bytes place 0) (suc place) 0) ≡ little_endian_word_sum (take place bytes) + little_endian_word_sum (drop (suc (suc place)) bytes)
zeroed-suc (x ∷ y ∷ bytes) zero even within = omega arith
zeroed-suc (x ∷ y ∷ bytes) (suc (suc place)) even within = omega (arith, zeroed-suc bytes place (omega arith) (omega arith))
zeroed-suc bytes place even within = absurd (omega (arith, even, within))

zeroed : (bytes : List ℕ) (place : ℕ) → place % 2 ≡ 0 → place + 2 ≤ length bytes
    → little_endian_word_sum (slice_set (slice_set bytes place 0) (place + 1) 0) ≡ little_endian_word_sum (take place bytes) + little_endian_word_sum (drop (place + 2) bytes)
zeroed bytes place even within =
    let next : place + 1 ≡ suc place = omega arith in
    let after : place + 2 ≡ suc (suc place) = omega arith in
    rw (next, after) (zeroed-suc bytes place even within)

-- a word takes the place of another in the sum
replaced-suc : (bytes : List ℕ) (place high low : ℕ) → place % 2 ≡ 0 → place + 2 ≤ length bytes
    → network_order_word_sum (slice_set (slice_set bytes place high) (suc place) low) + (256 * slice_index bytes place + slice_index bytes (suc place))
    ≡ network_order_word_sum bytes + (256 * high + low)
replaced-suc (x ∷ y ∷ bytes) zero high low even within = omega arith
replaced-suc (x ∷ y ∷ bytes) (suc (suc place)) high low even within = omega (arith, replaced-suc bytes place high low (omega arith) (omega arith))
replaced-suc bytes place high low even within = absurd (omega (arith, even, within))

pub replaced : (bytes : List ℕ) (place high low : ℕ) → place % 2 ≡ 0 → place + 2 ≤ length bytes
    → network_order_word_sum (slice_set (slice_set bytes place high) (place + 1) low) + (256 * slice_index bytes place + slice_index bytes (place + 1))
    ≡ network_order_word_sum bytes + (256 * high + low)
replaced bytes place high low even within =
    let next : place + 1 ≡ suc place = omega arith in rw next (replaced-suc bytes place high low even within)

-- the place of a checksum is even
place_is_even : (number : ℕ) → checksum_place number % 2 ≡ 0
place_is_even number = grind (arith, nat_tests)

-- the sum of what comes before, and of a front and a back of bytes, is that of all of them with 0 between
pub summed : (number : ℕ) (front covered : List ℕ) (before first sum : ℕ) → length front % 2 ≡ 0 → checksum_place number + 2 ≤ length covered
    → StandsForWords 0 front before → AddsSlice before (take (checksum_place number) covered) first
    → AddsSlice first (drop (checksum_place number + 2) covered) sum → IsSumOf sum (front ++ with_checksum number 0 covered)
summed number front covered before first sum even within stands adds_front adds_back =
    let zeros = zeroed covered (checksum_place number) (place_is_even number) within in
    adds_back.sum ∙ ap folded_sum (add_comm first _) ∙ adds_front.in_a_sum _ ∙ ap folded_sum (omega arith)
    ∙ stands (little_endian_word_sum (with_checksum number 0 covered)) ∙ ap folded_sum (omega (arith, little_endian_word_sum-append front (with_checksum number 0 covered) even))

-- the words with a checksum are those with 0, and it
pub with_checksum-words : (number checksum : ℕ) (covered : List ℕ) → checksum < 65536 → checksum_place number + 2 ≤ length covered
    → network_order_word_sum (with_checksum number checksum covered) ≡ network_order_word_sum (with_checksum number 0 covered) + checksum
with_checksum-words number checksum covered fits within =
    let place = checksum_place number in
    let even = place_is_even number in
    omega (arith, fits, replaced covered place 0 0 even within, replaced covered place (checksum / 256 % 256) (checksum % 256) even within)

-- the words are those with 0 for the checksum, and it
pub stored-words : (number : ℕ) (covered : List ℕ) → checksum_place number + 2 ≤ length covered
    → network_order_word_sum covered ≡ network_order_word_sum (with_checksum number 0 covered) + checksum_field number covered
stored-words number covered within = omega (arith, replaced covered (checksum_place number) 0 0 (place_is_even number) within)

-- a checksum that is never 0
pub with_no_zero-value : (n : ℕ) → with_no_zero n ≡ n + 65535 * (1 - n)
with_no_zero-value zero = omega arith
with_no_zero-value (suc n) = omega arith

-- the complement of a sum fits sixteen bits, and with it the sum is all ones; that of UDP is not 0
complements : (udp : Bool) (sum : ℕ) → let checksum : ℕ = if udp then with_no_zero (checksum_of sum) else checksum_of sum in
    (checksum < 65536) × (folded_sum (sum + checksum) ≡ 65535) × (udp ≡ true → 0 < checksum)
complements true sum = (
  omega (arith, with_no_zero-value (checksum_of sum), folded_sum_value sum),
  omega (arith, with_no_zero-value (checksum_of sum), folded_sum_value sum, folded_sum_value (sum + with_no_zero (checksum_of sum))),
  λ _. omega (arith, with_no_zero-value (checksum_of sum), folded_sum_value sum),
)
complements false sum = (
  omega arith,
  omega (arith, folded_sum_value sum, folded_sum_value (sum + checksum_of sum)),
  λ e. grind (arith, e),
)

-- bytes with their checksum sum to all ones
pub completed : (number : ℕ) (front covered : List ℕ) (checksum : ℕ) → length front % 2 ≡ 0 → checksum_place number + 2 ≤ length covered
    → checksum ≡ complement_of number (front ++ with_checksum number 0 covered)
    → (checksum < 65536) × SumsToAllOnes (front ++ with_checksum number checksum covered) × (number ≡ 17 → 0 < checksum)
completed number front covered checksum even within value =
    let zeros = front ++ with_checksum number 0 covered in
    let known = complements (number == 17) (network_order_word_sum zeros) in
    let fits : checksum < 65536 = rw value known.0 in
    let words : network_order_word_sum (front ++ with_checksum number checksum covered) ≡ network_order_word_sum zeros + checksum =
    omega (
      arith,
      network_order_word_sum-append front (with_checksum number checksum covered) even,
      with_checksum-words number checksum covered fits within,
      network_order_word_sum-append front (with_checksum number 0 covered) even,
    ) in
    (fits, rw (words, value) known.1, λ is. rw value (known.2 (grind (arith, nat_tests, is))))

-- whole pieces, with or without a pseudo-header
pub in_pieces : (alone : Bool) (front covered : List ℕ) → length front % 2 ≡ 0 → SumsToAllOnes ((if alone then [] else front) ++ covered)
    → ones_complement_sum (if alone then covered ∷ [] else front ∷ covered ∷ []) ≡ 65535
in_pieces true front covered even ones = ((adds_slices (covered ∷ []) (sum_by little_endian_word_sum (covered ∷ [])) refl).all_ones tt).0 (rw (append-nil covered) ones)
in_pieces false front covered even ones =
    ((adds_slices (front ∷ covered ∷ []) (sum_by little_endian_word_sum (front ∷ covered ∷ [])) refl).all_ones (even, tt)).0 (rw (append-nil covered) ones)

-- a pseudo-header comes before all but ICMP
pub before_segment : (protocol : ℕ) (front : List ℕ) → protocol ≢ 1 → (if protocol == 1 then [] else front) ≡ front
before_segment protocol front other = grind (arith, nat_tests, other)

pub even_before : (alone : Bool) (front : List ℕ) → length front % 2 ≡ 0 → length (if alone then [] else front) % 2 ≡ 0
even_before true front even = refl
even_before false front even = even

-- a pseudo-header cuts no word
pub even_header : (source destination last : List ℕ) → length source % 2 ≡ 0 → length destination % 2 ≡ 0 → length last % 2 ≡ 0
    → length (source ++ (destination ++ last)) % 2 ≡ 0
even_header source destination last first second third = omega (arith, first, second, third, length-append source (destination ++ last), length-append destination last)
