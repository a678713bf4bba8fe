-- Sums in lanes of 64 bits: the totals of words, and the sums of their low and high halves.
use Rattle.std.proofs.Common.{ℕ, List, [], ◌∷◌, ◌≡◌, ◌<◌, ◌+◌, ◌-◌, ◌*◌, ◌/◌, ◌%◌, ◌^◌, ◌∙◌, arith, get_or, length, map, min, refl}
use Rattle.std.specs.Simd.Lanes.{fold_l, sum_l, zip2}
use Rattle.etherparse_base.specs.Private.WideSums.{halves_in, halves_sum, lanes_added}

-- the sum of four words
pub four_sum : (words : List ℕ) → length words ≡ 4 → sum_l words ≡ get_or words 0 0 + get_or words 1 0 + get_or words 2 0 + get_or words 3 0
four_sum (a ∷ b ∷ c ∷ d ∷ []) four = omega arith
four_sum words four = absurd (omega (arith, four))

-- lanes added are the same with the last of them first
pub lanes_turned : (xs ys zs : List ℕ) → lanes_added xs (lanes_added ys zs) ≡ lanes_added zs (lanes_added xs ys)
lanes_turned (x ∷ xs) (y ∷ ys) (z ∷ zs) =
    let first : (x + (y + z) % 2 ^ 64) % 2 ^ 64 ≡ (z + (x + y) % 2 ^ 64) % 2 ^ 64 = omega arith in cc (first, lanes_turned xs ys zs)
lanes_turned [] ys [] = refl
lanes_turned (x ∷ xs) [] [] = refl
lanes_turned _ _ _ = refl

pub length-lanes_added : (xs ys : List ℕ) → length (lanes_added xs ys) ≡ min (length xs) (length ys)
length-lanes_added (x ∷ xs) (y ∷ ys) = omega (arith, length-lanes_added xs ys)
length-lanes_added [] ys = omega arith
length-lanes_added xs [] = omega arith

-- one word more in each lane adds its halves, where no sum overflows
pub lanes_more : (total beside high words : List ℕ) → length (lanes_added total beside) ≡ length words → length high ≡ length words
    → halves_in (lanes_added total beside) high + halves_sum words < 2 ^ 64
    → halves_in (lanes_added (lanes_added total words) beside) (lanes_added high (map (λ w. w / 2 ^ 32) words)) ≡ halves_in (lanes_added total beside) high + halves_sum words
lanes_more (t ∷ total) (b ∷ beside) (h ∷ high) (w ∷ words) same four below =
    omega (arith, below, lanes_more total beside high words (omega (arith, same)) (omega (arith, four)) (omega (arith, below)))
lanes_more [] beside [] [] same four below = omega arith
lanes_more (t ∷ total) [] [] [] same four below = omega arith
lanes_more total beside high words same four below = absurd (omega (arith, same, four))

-- the sum over all lanes, where none overflows
pub lanes_joined : (n : ℕ) (total high : List ℕ) → n + halves_in total high < 2 ^ 64
    → fold_l (λ s x. (s + x) % 2 ^ 64) n (lanes_added (zip2 (λ t h. (t + (2 ^ 64 - h)) % 2 ^ 64) total (map (λ h. h * 2 ^ 32 % 2 ^ 64) high)) high) ≡ n + halves_in total high
lanes_joined n (t ∷ total) (h ∷ high) below =
    let low = (t + (2 ^ 64 - h * 2 ^ 32 % 2 ^ 64)) % 2 ^ 64 in
    let first : (n + (low + h) % 2 ^ 64) % 2 ^ 64 ≡ n + (low + h) = omega (arith, below) in
    rw (first, fold_l) (lanes_joined (n + (low + h)) total high (omega (arith, below)) ∙ omega arith)
lanes_joined n [] high below = omega arith
lanes_joined n total [] below = omega arith
