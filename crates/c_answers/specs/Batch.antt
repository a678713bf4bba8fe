-- What C gets for a list of frames.
use Rattle.std.specs.Prelude.{ℕ, ◌≡◌, ◌<◌, List, Some, drop, length, min, slice_get}

-- the first answers are each for what stands at its place in another list; the others stay as they
-- were
pub record HasAnswers {A B : Type 0} (Answers : A → B → Type 0) (asked : List A)
    (before after : List B) (count : ℕ) : Type 0 where
  pub len : length after ≡ length before
  pub each : (i : ℕ) → (a : A) → (answer : B) → i < count → slice_get asked i ≡ Some a
      → slice_get after i ≡ Some answer → Answers a answer
  pub others : drop count after ≡ drop count before

-- there are as many answers as both lists have room for
pub record AreAnswers {A B : Type 0} (Answers : A → B → Type 0) (asked : List A)
    (before after : List B) (count : ℕ) : Type 0 where
  pub as_many : count ≡ min (length asked) (length before)
  pub answers : HasAnswers Answers asked before after count
