-- What is written into memory, and what stays as it was.
use Rattle.std.specs.Prelude.{ℕ, ◌≡◌, ◌≤◌, List, ◌++◌, drop, length, take}

-- the first bytes of the memory, up to an end, are now such; what comes after them is as it was
pub record WritesFront (IsSuch : List ℕ → Type 0) (end : ℕ) (old new : List ℕ) : Type 0 where
  pub front : IsSuch (take end new)
  pub within : end ≤ length new
  pub after : drop end new ≡ drop end old

-- such bytes now stand after what came before a place, up to an end
pub record WritesPart (IsSuch : List ℕ → Type 0) (at end : ℕ) (old new : List ℕ) : Type 0 where
  pub part : List ℕ
  pub is_such : IsSuch part
  pub joined : take end new ≡ take at old ++ part
  pub after : drop end new ≡ drop end old
  pub same_len : length new ≡ length old
