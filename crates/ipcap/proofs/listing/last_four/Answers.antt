use Rattle.std.proofs.Common.{ℕ, ◌≡◌, ◌≤◌, ◌<◌, ◌+◌, List, [], ◌∷◌, ◌++◌, ap, refl, sym, ◌∙◌, arith, append-nil, append_assoc, drop, length, length-append, length-drop, length-take-le, take}
use Prim.Native.Nat.{suc}
use Rattle.std.proofs.Math.ListN.{get_or}
use Rattle.std.proofs.Math.Seq.{take-suc}
use Rattle.std.proofs.lemmas.List.{drop-append-le, drop-drop, take_all}
use Rattle.ipcap.proofs.listing.last_four.Goals as goal

-- the last three of four, and one more
shift : (l : List ℕ) (x : ℕ) → length l ≡ 4 → get_or l 1 0 ∷ get_or l 2 0 ∷ get_or l 3 0 ∷ x ∷ [] ≡ drop 1 (l ++ x ∷ [])
shift [] x len = absurd (omega (arith, len))
shift (a ∷ []) x len = absurd (omega (arith, len))
shift (a ∷ b ∷ []) x len = absurd (omega (arith, len))
shift (a ∷ b ∷ c ∷ []) x len = absurd (omega (arith, len))
shift (a ∷ b ∷ c ∷ d ∷ []) x len = refl
shift (a ∷ b ∷ c ∷ d ∷ e ∷ l) x len = absurd (omega (arith, len))

-- the last four with one more byte
one_more : (four bytes last : List ℕ) (i : ℕ) → length four ≡ 4 → i < length bytes → last ≡ drop i (four ++ take i bytes)
    → get_or last 1 0 ∷ get_or last 2 0 ∷ get_or last 3 0 ∷ get_or bytes i 0 ∷ [] ≡ drop (i + 1) (four ++ take (i + 1) bytes)
one_more four bytes last i are within is =
    let d = take i bytes in
    let x = get_or bytes i 0 in
    let there : length d ≡ i = length-take-le i bytes (omega (arith, within)) in
    let len : length last ≡ 4 = omega (arith, ap length is, length-drop i (four ++ d), length-append four d, there, are) in
    let split : drop i (four ++ d) ++ x ∷ [] ≡ drop i ((four ++ d) ++ x ∷ []) = sym (drop-append-le i (four ++ d) (x ∷ []) (omega (arith, length-append four d, there))) in
    let next : suc i ≡ i + 1 = omega arith in
    let more : d ++ x ∷ [] ≡ take (i + 1) bytes = sym (take-suc bytes i 0 within) ∙ ap (λ n. take n bytes) next in
    shift last x len ∙ (ap (λ k. drop 1 (k ++ x ∷ [])) is ∙ (ap (drop 1) split ∙ (drop-drop 1 i ((four ++ d) ++ x ∷ []) ∙ ap (drop (i + 1)) (append_assoc four d (x ∷ []) ∙ ap (λ s. four ++ s) more))))

all_of : (four bytes last : List ℕ) (i : ℕ) → i ≤ length bytes → length bytes ≤ i → last ≡ drop i (four ++ take i bytes) → last ≡ drop (length bytes) (four ++ bytes)
all_of four bytes last i within all is =
    let whole : take i bytes ≡ bytes = take_all i bytes all in
    let same : i ≡ length bytes = omega (arith, within, all) in
    is ∙ (ap (λ s. drop i (four ++ s)) whole ∙ ap (λ n. drop n (four ++ bytes)) same)

pub bytes-init : goal.bytes-init
bytes-init c = sym (append-nil c.args.four)

pub bytes-preserved : goal.bytes-preserved
bytes-preserved c = one_more c.args.four c.args.bytes.now c.bytes.last c.bytes.byte-index (omega (arith, c.well_formed)) c.bytes-test.true c.bytes.invariant

pub returns : goal.returns
returns c = record { value = all_of c.args.four c.args.bytes.now c.bytes.last c.bytes.byte-index c.bytes.auto.byte-index-end c.bytes-test.false c.bytes.invariant }
