-- Numbers with leading zeros.
use Rattle.std.specs.Prelude.{ℕ, ◌-◌, List, ◌++◌, length, replicate}

-- a number in decimal, or in another base, with leading zeros up to this many digits
abbrev pub zero_padded : ℕ → List ℕ → List ℕ
zero_padded width number = replicate (width - length number) 48 ++ number
