-- Parts of a list: fronts, ranges, and what follows them.
use Rattle.std.proofs.Common.{ℕ, zero, suc, ◌≡◌, ◌%◌, ◌^◌, ◌<◌, List, [], ◌∷◌, map, ◌++◌, length, get_or, refl, sym, arith, w16, slice_set, take_at}
use Rattle.std.specs.Int.{to_be_bytes}
use Rattle.std.specs.List.{concat, slice_range, range_with_len}
use Rattle.std.proofs.lemmas.Grind.{common_steps}
use Rattle.std.proofs.lemmas.List.FromFn.{fill_by_all}
use Rattle.std.proofs.lemmas.Nat.{be_bytes_2, from_be_bytes-to_be_bytes_2}
use Rattle.etherparse_base.specs.Bytes.{IsBytes, words_of}

-- a part of bytes has bytes
pub part_is_bytes : (xs : List ℕ) (a b : ℕ) → IsBytes xs → IsBytes (slice_range xs a b)
part_is_bytes xs a b bytes i = grind (arith, common_steps)

-- two fronts of one length are one
pub same_front : (p q x y : List ℕ) → length p ≡ length q → p ++ x ≡ q ++ y → p ≡ q
same_front p q x y e h = let front = take_at p x (length q) e in let same = take_at q y (length q) refl in cc

-- all items of a list, one by one
pub spread : (xs : List ℕ) (n : ℕ) → length xs ≡ n → xs ≡ map (λ i. get_or xs i 0) (range_with_len 0 n)
spread xs n e = fill_by_all (λ i. get_or xs i 0) xs n 0 e (λ k below. refl)

-- two parts, each with its equation
pub same_append : {a a' b b' : List ℕ} → a ≡ a' → b ≡ b' → a ++ b ≡ a' ++ b'
same_append e f = cc

-- bytes with one of them replaced by a byte
pub set_is_bytes : (p : List ℕ) (i b : ℕ) → i < length p → b < 256 → IsBytes p → IsBytes (slice_set p i b)
set_is_bytes p i b within is_byte bytes k = grind (arith, common_steps)

pub word_is_bytes : (n : ℕ) → IsBytes (to_be_bytes w16 n)
word_is_bytes n i = grind arith

pub words_are_bytes : (ns : List ℕ) → IsBytes (concat (map (λ n. to_be_bytes w16 n) ns))
words_are_bytes [] i = omega arith
words_are_bytes (n ∷ ns) zero = word_is_bytes n 0
words_are_bytes (n ∷ ns) (suc zero) = word_is_bytes n 1
words_are_bytes (n ∷ ns) (suc (suc i)) = words_are_bytes ns i

-- bytes are told by their words
pub told_by_words : (p : List ℕ) → IsBytes p → length p % 2 ≡ 0 → p ≡ concat (map (λ n. to_be_bytes w16 n) (words_of p))
told_by_words [] bytes even = refl
told_by_words (a ∷ []) bytes even = absurd (omega (arith, even))
told_by_words (a ∷ b ∷ p) bytes even =
    same_append (sym (be_bytes_2 (a ∷ b ∷ []) _ refl (part_is_bytes (a ∷ b ∷ p) 0 2 bytes) refl)) (told_by_words p (λ i. bytes (suc (suc i))) (omega (arith, even)))

-- words that are written read back
pub words_written : (ns : List ℕ) → ((i : ℕ) → get_or ns i 0 < 2 ^ 16) → words_of (concat (map (λ n. to_be_bytes w16 n) ns)) ≡ ns
words_written [] fit = refl
words_written (n ∷ ns) fit = let e = words_written ns (λ i. fit (suc i)) in let f = from_be_bytes-to_be_bytes_2 n (fit 0) in cc
