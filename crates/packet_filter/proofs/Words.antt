-- The words of a text, from the first on.
use Rattle.std.proofs.Common.{◌≡◌, ℕ, zero, suc, ◌+◌, ◌-◌, ◌<◌, false, cond, List, [], ◌∷◌, ◌++◌, refl, sym, ap, ◌∙◌, subst, take, drop, length, get_or, arith, add-one, drop-cons, length-drop}
use Rattle.std.proofs.lemmas.List.{take_all, take-append-drop}
use Rattle.packet_filter.specs.Text.{is_space, len_after, words_of, words_past}

words_past_are : (n : ℕ) (s : List ℕ) → words_past n s ≡ words_of (drop n s)
words_past_are zero s = refl
words_past_are (suc n) [] = refl
words_past_are (suc n) (c ∷ s) = words_past_are n s

abbrev Split : List ℕ → ℕ → Type 0
Split s n = words_of s ≡ take n s ∷ words_of (drop n s)

first_split : (c : ℕ) (s : List ℕ) → is_space c ≡ false → Split (c ∷ s) (suc (len_after c s))
first_split c s h =
    let ws = words_past (len_after c s) s in
    ap (λ b. cond b ws ((c ∷ take (len_after c s) s) ∷ ws)) h ∙ ap (λ l. (c ∷ take (len_after c s) s) ∷ l) (words_past_are (len_after c s) s)

-- ---- at a place of the text

from_place : (s : List ℕ) (i : ℕ) → take (length s - i) (drop i s) ≡ drop i s
from_place s i = take_all (length s - i) (drop i s) (omega (arith, length-drop i s))

split_at : (s : List ℕ) (i n : ℕ) → i < length s → is_space (get_or s i 0) ≡ false → n ≡ len_after (get_or s i 0) (drop (suc i) s) → Split (drop i s) (suc n)
split_at s i n h p e = rw (drop-cons s i 0 h, e) (first_split (get_or s i 0) (drop (suc i) s) p)

pub word_at : (s : List ℕ) (i n : ℕ) → words_of (drop i s) ≡ words_of s → i < length s → is_space (get_or s i 0) ≡ false → n ≡ len_after (get_or s i 0) (take (length s - (i + 1)) (drop (i + 1) s)) → words_of s ≡ take (1 + n) (take (length s - i) (drop i s)) ∷ words_of (take (length (take (length s - i) (drop i s)) - (1 + n)) (drop (1 + n) (take (length s - i) (drop i s))))
word_at s i n same h p e =
    let at : n ≡ len_after (get_or s i 0) (drop (suc i) s) = e ∙ ap (len_after (get_or s i 0)) (from_place s (i + 1) ∙ ap (λ k. drop k s) (add-one i)) in
    let next : suc n ≡ 1 + n = omega arith in
    sym same ∙ simp from_place (subst (Split (drop i s)) next (split_at s i n h p at))

pub place_at : (s : List ℕ) (i n : ℕ) → s ≡ take i s ++ (take n (take (length s - i) (drop i s)) ++ take (length (take (length s - i) (drop i s)) - n) (drop n (take (length s - i) (drop i s))))
place_at s i n =
    let r = take (length s - i) (drop i s) in
    let parts : take n r ++ take (length r - n) (drop n r) ≡ drop i s = ap (λ x. take n r ++ x) (from_place r n) ∙ take-append-drop n r ∙ from_place s i in
    sym (ap (λ x. take i s ++ x) parts ∙ take-append-drop i s)
