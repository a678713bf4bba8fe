-- The words of radiotap that say which fields there are, one after the other.
use Rattle.std.proofs.Common.{ℕ, ◌≡◌, ◌+◌, ◌≤◌, ◌<◌, ◌∙◌, List, [], ◌∷◌, ap, arith, drop, get_or, length, length-drop, refl, subst, if◌then◌else◌}
use Rattle.std.proofs.lemmas.List.{drop_more}
use Rattle.packet_links.specs.Bytes.{is_set}
use Rattle.packet_links.specs.Ieee80211.{present_len}

next : (w : List ℕ) (i j : ℕ) → i + 1 ≡ j → i < length w → drop i w ≡ get_or w i 0 ∷ drop j w
next w i j e within = subst (λ k. drop i w ≡ get_or w i 0 ∷ drop k w) e (drop_more w i 0 within)

-- after a whole word comes another, or none
pub present_word : (n : ℕ) (w : List ℕ) → n + 4 ≤ length w → present_len (drop n w) ≡ (if is_set 7 (n + 3) w then 4 + present_len (drop (n + 4) w) else 4)
unfolding is_set
present_word n w e =
    let d = next w (n + 3) (n + 4) (omega arith) (omega (arith, e)) in
    let c = next w (n + 2) (n + 3) (omega arith) (omega (arith, e)) ∙ ap (λ r. get_or w (n + 2) 0 ∷ r) d in
    let b = next w (n + 1) (n + 2) (omega arith) (omega (arith, e)) ∙ ap (λ r. get_or w (n + 1) 0 ∷ r) c in
    ap present_len (next w n (n + 1) (omega arith) (omega (arith, e)) ∙ ap (λ r. get_or w n 0 ∷ r) b)

few : (v : List ℕ) → length v < 4 → present_len v ≡ 0
few [] e = refl
few (a ∷ []) e = refl
few (a ∷ b ∷ []) e = refl
few (a ∷ b ∷ c ∷ []) e = refl
few (a ∷ b ∷ c ∷ d ∷ rest) e = omega arith

-- what is less than a word is none
pub no_word : (n : ℕ) (w : List ℕ) → length w < n + 4 → present_len (drop n w) ≡ 0
no_word n w e = few (drop n w) (omega (arith, length-drop {A = ℕ}))
