-- Folded sums: which numbers have the same one.
use Rattle.std.proofs.Common.{ℕ, zero, suc, List, ◌≡◌, ◌<◌, ◌≤◌, ◌+◌, ◌-◌, ◌%◌, arith, min}
use Rattle.etherparse_base.specs.WordSums.{StandsForWords, folded_sum, little_endian_word_sum}

-- the fold of a number, and of one above 0
pub folded_sum_value : (n : ℕ) → folded_sum n ≡ min n 1 + (n - 1) % 65535
folded_sum_value zero = omega arith
folded_sum_value (suc n) = omega arith

pub folded_sum-positive : (n : ℕ) → 0 < n → folded_sum n ≡ 1 + (n - 1) % 65535
folded_sum-positive n h = omega (arith, h, folded_sum_value n)

-- numbers that fold alike do so with another added
pub folded_sum-plus : (a b n : ℕ) → folded_sum a ≡ folded_sum b → folded_sum (a + n) ≡ folded_sum (b + n)
folded_sum-plus a b n e = omega (arith, e, folded_sum_value)

-- all ones in the place of 0 leave a sum above 0 as it is
pub folded_sum-all_ones : (n zeros : ℕ) → 0 < n → zeros ≡ 0 → folded_sum (n + 65535) ≡ folded_sum (n + zeros)
folded_sum-all_ones n other some none = omega (arith, some, none, folded_sum_value)

-- a fold has sixteen bits
pub folded_sum-within : (n : ℕ) → folded_sum n ≤ 65535
folded_sum-within n = omega (arith, folded_sum_value n)

-- a sum to which words were added, in a longer one
pub stands_for_words : (start answer : ℕ) (bytes : List ℕ) → folded_sum answer ≡ folded_sum (start + little_endian_word_sum bytes) → StandsForWords start bytes answer
stands_for_words start answer bytes e n = omega (arith, e, folded_sum_value)
