-- The error of a value that is too big: when it occurs, and its text.
use Rattle.std.specs.Prelude.{ℕ, ◌≡◌, ◌<◌, ◌≤◌, List, [], ◌∷◌, codes, Result, Ok, Err}
use Rattle.std.specs.Fmt.{decimal}
use Rattle.std.specs.List.{concat}
use Rattle.etherparse_base.specs.declared.err.value_too_big_error.ValueTooBigError as error
use Rattle.etherparse_base.specs.declared.err.value_type.ValueType.{ValueType}
use Rattle.etherparse_base.specs.ValueType.{value_type_text}

-- what is made of a value: its number up to the greatest that is allowed, and above it the error
abbrev pub TakesUpTo :
    {T : Type 0} → (T → ℕ) → ℕ → ValueType → ℕ → Result T (error.ValueTooBigError ℕ) → Type 0
TakesUpTo number_of max value_type value (Ok x) = (value ≤ max) × (number_of x ≡ value)
TakesUpTo number_of max value_type value (Err e) =
    (max < value) × (e ≡ record { actual = value; max_allowed = max; value_type = value_type })

-- the text of the error, for each unsigned type
abbrev pub value_too_big_error_text : error.ValueTooBigError ℕ → List ℕ
value_too_big_error_text e = concat (
    codes "Error '" ∷ decimal e.actual ∷ codes "' is too big to be a '"
    ∷ value_type_text e.value_type ∷ codes "' (maximum allowed value is '" ∷ decimal e.max_allowed
    ∷ codes "')" ∷ [])
