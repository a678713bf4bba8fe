-- Sums of words of sixteen bits, and the checksum that is made of them (RFC 1071).
use Rattle.std.specs.Prelude.{ℕ, zero, suc, ◌≡◌, ◌≢◌, ◌<◌, ◌≤◌, ◌+◌, ◌-◌, ◌*◌, ◌%◌, ◌↔◌}
use Rattle.std.specs.Prelude.{List, [], ◌∷◌, ◌++◌, if◌then◌else◌, length, nat_lt, slice_index}
use Rattle.std.specs.Prelude.{slice_set, sum_by}
use Rattle.std.specs.Int.{swap_bytes, w16}
use Rattle.std.specs.List.{concat}

-- the sum of two numbers up to the greatest, with the end-around carry: a carry out is added at the
-- low end (RFC 1071 section 1)
abbrev pub end_around_sum : ℕ → ℕ → ℕ → ℕ
end_around_sum greatest a b = if nat_lt greatest (a + b) then a + b - greatest else a + b

-- The ones-complement sum of sixteen bits, from the plain sum of the words (RFC 1071 section 1). Of
-- 0 it is 0; of any other sum it is the number from 1 to 65535 that differs by a multiple of 65535.
abbrev pub folded_sum : ℕ → ℕ
folded_sum zero = 0
folded_sum (suc n) = 1 + n % 65535

-- the sum of the bytes, each times its weight; the two weights take turns
abbrev pub weighted_byte_sum : ℕ → ℕ → List ℕ → ℕ
weighted_byte_sum weight other [] = 0
weighted_byte_sum weight other (byte ∷ bytes) = weight * byte + weighted_byte_sum other weight bytes

-- the sum of words of two bytes, low byte first (RFC 1071 section 2 (B)); an odd byte is a low one
abbrev pub little_endian_word_sum : List ℕ → ℕ
little_endian_word_sum bytes = weighted_byte_sum 1 256 bytes

-- the same in network order, high byte first (RFC 1071 section 1); an odd byte is a high one
abbrev pub network_order_word_sum : List ℕ → ℕ
network_order_word_sum bytes = weighted_byte_sum 256 1 bytes

-- the words sum to all ones, by which a receiver knows that a checksum among them is right
abbrev pub SumsToAllOnes : List ℕ → Type 0
SumsToAllOnes bytes = folded_sum (network_order_word_sum bytes) ≡ 65535

-- the ones-complement sum of the words of all pieces; each piece begins with a new word
abbrev pub ones_complement_sum : List (List ℕ) → ℕ
ones_complement_sum pieces = folded_sum (sum_by little_endian_word_sum pieces)

-- the checksum of a sum: its ones-complement in sixteen bits (RFC 1071 section 1)
abbrev pub checksum_of : ℕ → ℕ
checksum_of sum = 65535 - folded_sum sum

-- a checksum that is never 0, which in UDP says that there is none: 0xffff stands for 0 (RFC 768)
abbrev pub with_no_zero : ℕ → ℕ
with_no_zero zero = 65535
with_no_zero (suc n) = suc n

-- the number can stand for the sum of the words of these bytes
abbrev pub IsSumOf : ℕ → List ℕ → Type 0
IsSumOf sum bytes = folded_sum sum ≡ folded_sum (little_endian_word_sum bytes)

-- in any longer sum the answer has the same fold as the words of the bytes and the start
abbrev pub StandsForWords : ℕ → List ℕ → ℕ → Type 0
StandsForWords start bytes answer = (n : ℕ)
    → folded_sum (n + answer) ≡ folded_sum (n + little_endian_word_sum bytes + start)

-- The checksum after a change of one word, from the complements of the old checksum and of the old
-- word and from the new word (RFC 1624 section 3, equation 3).
abbrev pub updated_checksum : ℕ → ℕ → ℕ → ℕ
updated_checksum checksum old new = checksum_of ((65535 - checksum) + (65535 - old) + new)

-- the same after a change of some words at once, each of which is complemented
abbrev pub updated_checksum_of_words : ℕ → ℕ → List ℕ → List ℕ → ℕ
updated_checksum_of_words words checksum old new = checksum_of ((65535 - checksum)
    + (words * 65535 - network_order_word_sum old) + network_order_word_sum new)

-- the checksum after several words changed, one update after the other
abbrev pub updated_in_turn : ℕ → List ℕ → List ℕ → ℕ
updated_in_turn checksum (x ∷ xs) (y ∷ ys) = updated_in_turn (updated_checksum checksum x y) xs ys
updated_in_turn checksum xs ys = checksum

-- What is known of a checksum that was updated because words with the old sum became words with the
-- new: that of a sum becomes that of the new sum. What a receiver sums with it keeps its fold.
pub record UpdatesChecksum (checksum old new answer : ℕ) : Type 0 where
  pub anew : (sum : ℕ) → old ≤ sum → checksum ≡ checksum_of sum → 0 < sum - old + new
      → answer ≡ checksum_of (sum - old + new)
  pub received : (sum : ℕ) → old ≤ sum → 0 < sum → 0 < sum - old + new
      → folded_sum (sum - old + new + answer) ≡ folded_sum (sum + checksum)

-- the same for a checksum in which 0 says that there is none; here anew has no exception
pub record UpdatesChecksumWithNoZero (checksum old new answer : ℕ) : Type 0 where
  pub anew : (sum : ℕ) → old ≤ sum → checksum ≡ with_no_zero (checksum_of sum)
      → answer ≡ with_no_zero (checksum_of (sum - old + new))
  pub received : checksum ≢ 0 → (sum : ℕ) → old ≤ sum → 0 < sum → 0 < sum - old + new
      → folded_sum (sum - old + new + answer) ≡ folded_sum (sum + checksum)

-- the bytes after are those before with another byte at one place
pub record ChangesOneByte (before after : List ℕ) : Type 0 where
  pub place : ℕ
  pub byte : ℕ
  pub within : place < length before
  pub is_byte : byte < 256
  pub differs : byte ≢ slice_index before place
  pub changed : after ≡ slice_set before place byte

-- What is known of a sum to which the words of some bytes were added. A zero byte after them leaves
-- it the same. Bytes that sum to all ones no longer do so with one of them changed.
pub record AddsSlice (start : ℕ) (bytes : List ℕ) (answer : ℕ) : Type 0 where
  pub sum : folded_sum answer ≡ folded_sum (start + little_endian_word_sum bytes)
  pub in_a_sum : StandsForWords start bytes answer
  pub padded : StandsForWords start (bytes ++ 0 ∷ []) answer
  pub network_order : start ≡ 0
      → swap_bytes w16 (folded_sum answer) ≡ folded_sum (network_order_word_sum bytes)
  pub all_ones : start ≡ 0 → (SumsToAllOnes bytes ↔ (folded_sum answer ≡ 65535))
  pub one_byte : SumsToAllOnes bytes
      → (changed : List ℕ) → ChangesOneByte bytes changed → ¬ SumsToAllOnes changed

-- each piece but the last has an even number of bytes, so that no word is cut
abbrev pub CutsNoWord : List (List ℕ) → Type 0
CutsNoWord (piece ∷ next ∷ after) = (length piece % 2 ≡ 0) × CutsNoWord (next ∷ after)
CutsNoWord pieces = Unit {0}

-- What is known of the sum of pieces. It stays the same if two neighbours are exchanged, if a piece
-- is cut after an even number of bytes, and if two pieces, or all of them, are joined there.
pub record AddsSlices (pieces : List (List ℕ)) (answer : ℕ) : Type 0 where
  pub sum : folded_sum answer ≡ ones_complement_sum pieces
  pub exchanged : (before after : List (List ℕ)) (first second : List ℕ)
      → pieces ≡ before ++ first ∷ second ∷ after
      → folded_sum answer ≡ ones_complement_sum (before ++ second ∷ first ∷ after)
  pub cut : (before after : List (List ℕ)) (front back : List ℕ)
      → pieces ≡ before ++ (front ++ back) ∷ after → length front % 2 ≡ 0
      → folded_sum answer ≡ ones_complement_sum (before ++ front ∷ back ∷ after)
  pub joined : (before after : List (List ℕ)) (front back : List ℕ)
      → pieces ≡ before ++ front ∷ back ∷ after → length front % 2 ≡ 0
      → folded_sum answer ≡ ones_complement_sum (before ++ (front ++ back) ∷ after)
  pub whole : CutsNoWord pieces → IsSumOf answer (concat pieces)
  pub all_ones : CutsNoWord pieces → (SumsToAllOnes (concat pieces) ↔ (folded_sum answer ≡ 65535))

-- What is known of the checksum of a sum. Each sum with this fold is all ones with the checksum
-- among its words. For bytes whose sum it is, the checksum with its two bytes exchanged is that of
-- the words in network order.
pub record Complements (sum checksum : ℕ) : Type 0 where
  pub value : checksum ≡ checksum_of sum
  pub completes : (n : ℕ) → folded_sum n ≡ folded_sum sum → folded_sum (n + checksum) ≡ 65535
  pub network_order : (bytes : List ℕ) → IsSumOf sum bytes
      → swap_bytes w16 checksum ≡ checksum_of (network_order_word_sum bytes)
  pub all_ones : (bytes : List ℕ) → IsSumOf sum bytes → (SumsToAllOnes bytes ↔ (checksum ≡ 0))

-- the same for the checksum that is never 0
pub record ComplementsWithNoZero (sum checksum : ℕ) : Type 0 where
  pub value : checksum ≡ with_no_zero (checksum_of sum)
  pub completes : (n : ℕ) → folded_sum n ≡ folded_sum sum → folded_sum (n + checksum) ≡ 65535
  pub network_order : (bytes : List ℕ) → IsSumOf sum bytes
      → swap_bytes w16 checksum ≡ with_no_zero (checksum_of (network_order_word_sum bytes))
