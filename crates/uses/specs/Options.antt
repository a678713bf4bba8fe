-- The options of an IPv4 header (RFC 791 section 3.1).
use Rattle.std.specs.Prelude.{ℕ, ◌≡◌, ◌+◌, ◌<◌, ◌≤◌, ◌⊎◌}
use Rattle.std.specs.Prelude.{List, [], ◌∷◌, ◌++◌, length, slice_index}

-- one option: a byte that is 1; or a type, the length of the whole option, and its data
abbrev pub IsOption : List ℕ → Type 0
IsOption [] = ⊥
IsOption (kind ∷ []) = kind ≡ 1
IsOption (kind ∷ len ∷ data_bytes) = (2 ≤ kind) × (len ≡ 2 + length data_bytes)

-- the bytes are these options, and the rest
abbrev pub AreOptions : List ℕ → List (List ℕ) → List ℕ → Type 0
AreOptions s [] rest = s ≡ rest
AreOptions s (option ∷ options) rest = IsOption option × (after : List ℕ) × (s ≡ option ++ after)
    × AreOptions after options rest

-- the options end: no byte is left, or a byte 0 ends the list
pub record EndsAfter (s : List ℕ) (options : List (List ℕ)) : Type 0 where
  pub rest : List ℕ
  pub are : AreOptions s options rest
  pub end : (rest ≡ []) ⊎ (slice_index rest 0 ≡ 0)

-- the first option has no length, or one that does not count itself, or one that is not there
pub record IsBroken (rest : List ℕ) : Type 0 where
  pub kind : 2 ≤ slice_index rest 0
  pub wrong : (length rest < 2) ⊎ (slice_index rest 1 < 2) ⊎ (length rest < slice_index rest 1)

-- after some options comes one, at this place, whose length is missing or wrong
pub record BreaksAt (s : List ℕ) (place : ℕ) : Type 0 where
  pub options : List (List ℕ)
  pub rest : List ℕ
  pub before : AreOptions s options rest
  pub at : place + length rest ≡ length s
  pub broken : IsBroken rest
