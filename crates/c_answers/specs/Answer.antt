-- What C gets for an answer of the library.
use Rattle.std.specs.Prelude.{ℕ, ◌≡◌, ◌-◌, ◌++◌, List, length, replicate, Result, Ok, Err}
use Rattle.c_answers.specs.Error.{no_error}
use Rattle.c_answers.specs.declared.error.Error.{Error}
use Rattle.c_answers.specs.declared.error.Rest.{Rest}

-- The library allows an answer, and each one that it allows is what C gets.
pub record GivesAnswer {A C : Type 0} (Allows : A → Type 0) (in_c : A → C) (result : C)
    : Type 0 where
  pub answer : A
  pub allowed : Allows answer
  pub only : (each : A) → Allows each → result ≡ in_c each

-- where the last bytes of a slice are, from its first byte, and how many they are
abbrev pub rest_of : List ℕ → List ℕ → Rest
rest_of s rest = record { offset = length s - length rest; len = length rest }

-- What C gets for an answer about a slice: what was found, no error, and where the rest is; or
-- nothing, the error and no rest.
abbrev pub answer_in_c : {A C E : Type 0} → (A → C) → C → (E → Error) → List ℕ
    → Result (A × List ℕ) E → C × Error × Rest
answer_in_c found_in_c nothing error_in_c s (Ok x) = (found_in_c x.0, no_error, rest_of s x.1)
answer_in_c found_in_c nothing error_in_c s (Err e) =
    (nothing, error_in_c e, record { offset = 0; len = 0 })

-- bytes at the front of an array with this much room, 0 after them, and their number
abbrev pub bytes_in_c : ℕ → List ℕ → List ℕ × ℕ
bytes_in_c room bytes = (bytes ++ replicate (room - length bytes) 0, length bytes)
