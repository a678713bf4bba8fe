-- Bytes that are read as one number, low byte first, in a sum of words.
use Rattle.std.proofs.Common.{ℕ, zero, suc, List, [], ◌∷◌, ◌≡◌, ◌<◌, ◌≤◌, ◌+◌, ◌-◌, ◌*◌, ◌/◌, ◌^◌, ◌∙◌, ap, arith, drop, get_or, length, refl, slice_index, sym, take, w32, w64}
use Rattle.std.proofs.Math.Nat.{zero-div}
use Rattle.std.proofs.lemmas.Nat.{shr-shr}
use Rattle.std.specs.Int.{from_le_bytes}
use Rattle.std.specs.Simd.Lanes.{number_l}
use Rattle.etherparse_base.specs.WordSums.{folded_sum, little_endian_word_sum, weighted_byte_sum}
use Rattle.etherparse_base.specs.Private.WideSums.{SameFold, StandsFor}
use Rattle.etherparse_base.proofs.FoldedSums.{folded_sum_value}

-- a number that is added in folds adds what the words of its bytes do
pub adds_four : (start answer : ℕ) (bytes : List ℕ) → length bytes ≡ 4 → SameFold answer (start + from_le_bytes w32 bytes)
    → folded_sum answer ≡ folded_sum (start + little_endian_word_sum bytes)
adds_four start answer (a ∷ b ∷ c ∷ d ∷ []) four adds = grind (arith, folded_sum_value)
adds_four start answer bytes four adds = absurd (omega (arith, four))

pub adds_eight : (start answer : ℕ) (bytes : List ℕ) → length bytes ≡ 8 → SameFold answer (start + from_le_bytes w64 bytes)
    → folded_sum answer ≡ folded_sum (start + little_endian_word_sum bytes)
adds_eight start answer (a ∷ b ∷ c ∷ d ∷ e ∷ f ∷ g ∷ h ∷ []) eight adds = grind (arith, folded_sum_value)
adds_eight start answer bytes eight adds = absurd (omega (arith, eight))

-- a number has the same fold as the words of its bytes
number_folded : (bytes : List ℕ) → SameFold (number_l 256 bytes) (little_endian_word_sum bytes)
number_folded (low ∷ high ∷ bytes) =
    let rest = number_folded bytes in record { apart = omega arith; none = omega arith; some = omega arith }
number_folded (low ∷ []) = record { apart = omega arith; none = omega arith; some = omega arith }
number_folded [] = record { apart = refl; none = omega arith; some = omega arith }

-- a number without its low bytes is that of the others
number_l-drop : (count : ℕ) (bytes : List ℕ) → ((i : ℕ) → slice_index bytes i < 256) → number_l 256 bytes / 2 ^ (8 * count) ≡ number_l 256 (drop count bytes)
number_l-drop zero bytes are_bytes = omega arith
number_l-drop (suc count) [] are_bytes = zero-div (2 ^ (8 * suc count))
number_l-drop (suc count) (byte ∷ bytes) are_bytes =
    let bits : 8 * suc count ≡ 8 + 8 * count = omega arith in
    let first : number_l 256 (byte ∷ bytes) / 2 ^ 8 ≡ number_l 256 bytes = omega (arith, are_bytes 0) in
    rw (bits, sym (shr-shr (number_l 256 (byte ∷ bytes)) 8 (8 * count)), first) (number_l-drop count bytes (λ i. are_bytes (suc i)))

-- the last of eight bytes as a number: that of all eight without the bits of the others
pub last_bytes : (word count : ℕ) (bytes : List ℕ) → word ≡ from_le_bytes w64 bytes → length bytes ≡ 8 → ((i : ℕ) → slice_index bytes i < 256) → count < 8
    → SameFold (word / 2 ^ 8 / 2 ^ (56 - 8 * count)) (little_endian_word_sum (drop (8 - count) bytes))
last_bytes word count (a ∷ b ∷ c ∷ d ∷ e ∷ f ∷ g ∷ h ∷ []) is eight are_bytes few =
    let bytes : List ℕ = a ∷ b ∷ c ∷ d ∷ e ∷ f ∷ g ∷ h ∷ [] in
    let number : word ≡ number_l 256 bytes = omega (arith, is) in
    let bits : 8 + (56 - 8 * count) ≡ 8 * (8 - count) = omega (arith, few) in
    rw (shr-shr word 8 (56 - 8 * count), bits, number, number_l-drop (8 - count) bytes are_bytes) (number_folded (drop (8 - count) bytes))
last_bytes word count bytes is eight are_bytes few = absurd (omega (arith, eight))

-- the number of the bytes in front stands for their words
pub eight_in_front : (word : ℕ) (bytes front rest : List ℕ) → 8 ≤ length bytes → front ≡ take 8 bytes → rest ≡ drop 8 bytes → word ≡ from_le_bytes w64 front
    → StandsFor word bytes rest
eight_in_front word (a ∷ b ∷ c ∷ d ∷ e ∷ f ∷ g ∷ h ∷ bytes) front rest long taken left is =
    let number : word ≡ number_l 256 (a ∷ b ∷ c ∷ d ∷ e ∷ f ∷ g ∷ h ∷ []) = omega (arith, is ∙ ap (from_le_bytes w64) taken) in
    rw (left, number) (record { apart = omega arith; none = omega arith; some = omega arith })
eight_in_front word bytes front rest long taken left is = absurd (omega (arith, long))

pub four_alone : (word : ℕ) (bytes front : List ℕ) → 4 ≡ length bytes → front ≡ take 4 bytes → word ≡ from_le_bytes w32 front → StandsFor word bytes []
four_alone word (a ∷ b ∷ c ∷ d ∷ []) front four taken is =
    let number : word ≡ number_l 256 (a ∷ b ∷ c ∷ d ∷ []) = omega (arith, is ∙ ap (from_le_bytes w32) taken) in
    rw number (record { apart = omega arith; none = omega arith; some = omega arith })
four_alone word bytes front four taken is = absurd (omega (arith, four))

-- the sum of sixteen bytes, one by one
pub sixteen : (weight other : ℕ) (bytes : List ℕ) → length bytes ≡ 16 → weighted_byte_sum weight other bytes
    ≡ weighted_byte_sum weight other (get_or bytes 0 0 ∷ get_or bytes 1 0 ∷ get_or bytes 2 0 ∷ get_or bytes 3 0 ∷ get_or bytes 4 0 ∷ get_or bytes 5 0 ∷ get_or bytes 6 0 ∷ get_or bytes 7 0
    ∷ get_or bytes 8 0 ∷ get_or bytes 9 0 ∷ get_or bytes 10 0 ∷ get_or bytes 11 0 ∷ get_or bytes 12 0 ∷ get_or bytes 13 0 ∷ get_or bytes 14 0 ∷ get_or bytes 15 0 ∷ [])
sixteen weight other (a ∷ b ∷ c ∷ d ∷ e ∷ f ∷ g ∷ h ∷ i ∷ j ∷ k ∷ l ∷ m ∷ n ∷ o ∷ p ∷ []) is = refl
sixteen weight other bytes is = absurd (omega (arith, is))
