use Rattle.std.proofs.Common.{ℕ, ◌+◌, ◌<◌, ◌≤◌, List, [], ◌∷◌, length, get_or, take, ap, arith, length-append}
use Rattle.std.proofs.lemmas.List.{take-append-drop, take_more}
use Rattle.std.proofs.lemmas.List.Elements.{filter-append}
use Rattle.iphead.specs.Input.{digits_of}
use Rattle.iphead.proofs.input.push_digits.Goals as goal

-- the digits of a piece are at least those up to an item, and that item's
length-digits_of-take : (xs : List ℕ) (i : ℕ) → i < length xs
    → length (digits_of (take i xs)) + length (digits_of (get_or xs i 0 ∷ [])) ≤ length (digits_of xs)
length-digits_of-take xs i h =
    omega (arith, simp (take_more xs i 0 h, filter-append, length-append) at (ap {B = ℕ} (λ ys. length (digits_of ys)) (take-append-drop (i + 1) xs)))

pub returns-then-not-push_digit-clause-too_many : goal.returns-then-not-push_digit-clause-too_many
returns-then-not-push_digit-clause-too_many c =
    let taken = length-digits_of-take c.args.piece.now c.loop-byte.byte-index c.loop-byte-test.true in
    grind (arith, length-append, taken)
