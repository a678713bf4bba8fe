-- What the sum by wide words keeps on its way through a slice.
use Rattle.std.specs.Prelude.{ℕ, ◌≡◌, ◌≤◌, ◌+◌, ◌-◌, ◌*◌, ◌/◌, ◌%◌, ◌^◌, List, length, map}
use Rattle.std.specs.Simd.Lanes.{sum_l, zip2}
use Rattle.etherparse_base.specs.WordSums.{little_endian_word_sum}
use Rattle.etherparse_base.specs.declared.checksum.wide_u64.Turns.{Turns}

-- Numbers that have the same fold, also within a longer sum: they differ by a multiple of 65535,
-- and none of them alone is 0.
abbrev pub SameFold : ℕ → ℕ → Type 0
SameFold a b = record { apart : a % 65535 ≡ b % 65535; none : a ≡ 0 → b ≡ 0; some : b ≡ 0 → a ≡ 0 }

-- the number has the same fold as the words of the bytes before the rest
abbrev pub StandsFor : ℕ → List ℕ → List ℕ → Type 0
StandsFor number bytes rest =
    SameFold (number + little_endian_word_sum rest) (little_endian_word_sum bytes)

-- the sum of the low and of the high halves of words of eight bytes
abbrev pub halves_sum : List ℕ → ℕ
halves_sum words = sum_l (map (λ w. w % 2 ^ 32) words) + sum_l (map (λ w. w / 2 ^ 32) words)

-- lanes of 64 bits added, without the bits above
abbrev pub lanes_added : List ℕ → List ℕ → List ℕ
lanes_added xs ys = zip2 (λ x y. (x + y) % 2 ^ 64) xs ys

-- the sum of the low and of the high halves of words, from their totals and the sums of their high
-- halves in each lane
abbrev pub halves_in : List ℕ → List ℕ → ℕ
halves_in total high =
    sum_l (zip2 (λ t h. (t + (2 ^ 64 - h * 2 ^ 32 % 2 ^ 64)) % 2 ^ 64 + h) total high)

-- turns stand for the bytes before the rest, with totals that are kept apart added to theirs; no
-- sum of halves overflows
pub record AddsTurns (bytes beside : List ℕ) (at : Turns) (rest : List ℕ) : Type 0 where
  pub four : length at.high ≡ 4
  pub as_many : length (lanes_added at.total beside) ≡ 4
  pub stands_for : StandsFor (sum_l at.first + sum_l at.second + at.carries
      + halves_in (lanes_added at.total beside) at.high) bytes rest
  pub carries_fit : at.carries + length rest ≤ length bytes
  pub eighths : length rest % 8 ≡ length bytes % 8
  pub halves_fit : halves_in (lanes_added at.total beside) at.high + 2 ^ 30 * length rest
      ≤ 2 ^ 30 * length bytes
