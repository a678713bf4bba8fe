-- A text, as C gets it.
use Rattle.std.specs.Prelude.{ℕ, ◌≡◌, ◌++◌, List, [], ◌∷◌, drop, length, take}

-- a buffer with a text: as much of it as there is room for, a byte 0, and then what was there
abbrev pub with_text : List ℕ → List ℕ → List ℕ
with_text text [] = []
with_text text (first ∷ others) = take (length others) text ++ 0 ∷ drop (length text) others

-- the text is in the buffer, and the answer is the length of the whole text
pub record GivesText (text before after : List ℕ) (answer : ℕ) : Type 0 where
  pub len : answer ≡ length text
  pub written : after ≡ with_text text before
