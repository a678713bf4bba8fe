use Rattle.std.proofs.Common.{ℕ, Bool, false, List, [], ◌∷◌, arith, get_or, refl}
use Rattle.c_answers.specs.Batch.{AreAnswers}
use Rattle.c_answers.proofs.filter_frames.chooses.Goals as goal

-- the answer for an item alone in its list
alone : {A : Type 0} {Answers : A → Bool → Type 0} (a : A) (before : Bool) (after : List Bool) (count : ℕ) → AreAnswers Answers (a ∷ []) (before ∷ []) after count
    → Answers a (get_or after 0 false)
alone a before [] count h = absurd (omega (arith, h.answers.len))
alone a before (x ∷ xs) count h = h.answers.each 0 a x (omega (arith, h.as_many)) refl refl

pub returns : goal.returns
returns c = record { answers = alone _ false c.choose_each.new.answers c.choose_each.result c.choose_each.ensures.answers }
