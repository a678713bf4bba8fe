-- From an answer of the library to what C gets for it.
use Rattle.std.proofs.Common.{ℕ, ◌≡◌, ◌+◌, List, Ok, Err, Result, sym, ap, ◌∙◌, arith, length}
use Rattle.std.proofs.lemmas.Grind.{common_steps}
use Rattle.etherparse.specs.Reading.{HasFront, Reads, Views}
use Rattle.c_answers.specs.Answer.{GivesAnswer}

-- C gets the one answer that is allowed
pub answered : {A C : Type 0} {Allows : A → Type 0} {in_c : A → C} {result : C} (a : A) → Allows a
    → ((other : A) → Allows other → other ≡ a) → result ≡ in_c a → GivesAnswer Allows in_c result
answered {A} {C} {Allows} {in_c} a allowed only given = record { answer = a; allowed = allowed; only = λ each e. given ∙ ap in_c (sym (only each e)) }

-- if a front is viewed, C gets the view of each header that is read
pub seen : {H E C : Type 0} {in_c : Result (H × List ℕ) E → C} {result : C} (Layout : H → List ℕ → Type 0) (Refuses : List ℕ → E → Type 0) (s front : List ℕ)
    → HasFront Layout s front → ((other : Result (List ℕ) E) → Views Layout Refuses s other → other ≡ Ok front)
    → ((h : H) (rest : List ℕ) → Layout h front → length front + length rest ≡ length s → result ≡ in_c (Ok (h, rest)))
    → GivesAnswer (Reads Layout Refuses s) in_c result
seen {H} {E} {C} {in_c} {result} Layout Refuses s front v only gives =
    record { answer = Ok (v.header, v.rest); allowed = record { front = front; whole = v.whole; layout = v.layout }; only = each }
  where
    each : (a : Result (H × List ℕ) E) → Reads Layout Refuses s a → result ≡ in_c a
    each (Ok x) b =
        let one : Ok b.front ≡ Ok front = only (Ok b.front) (record { header = x.0; rest = x.1; whole = b.whole; layout = b.layout }) in
        let same : b.front ≡ front = cc in
        gives x.0 x.1 (rw same at b.layout) (grind (arith, common_steps, ap length b.whole))
    each (Err e) r = let wrong : Err e ≡ Ok front = only (Err e) r in cc

-- otherwise C gets the error
pub unseen : {H E C : Type 0} {in_c : Result (H × List ℕ) E → C} {result : C} (Layout : H → List ℕ → Type 0) (Refuses : List ℕ → E → Type 0) (s : List ℕ) (e : E)
    → Refuses s e → ((other : Result (List ℕ) E) → Views Layout Refuses s other → other ≡ Err e)
    → result ≡ in_c (Err e) → GivesAnswer (Reads Layout Refuses s) in_c result
unseen {H} {E} Layout Refuses s e refused only given = answered (Err e) refused one given
  where
    one : (other : Result (H × List ℕ) E) → Reads Layout Refuses s other → other ≡ Err e
    one (Ok x) b = let wrong : Ok b.front ≡ Err e = only (Ok b.front) (record { header = x.0; rest = x.1; whole = b.whole; layout = b.layout }) in cc
    one (Err f) r = let same : Err f ≡ Err e = only (Err f) r in cc
