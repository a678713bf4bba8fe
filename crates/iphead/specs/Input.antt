-- What the input says.
use Rattle.std.specs.Prelude.{ℕ, ◌<◌, ◌⊎◌, ◌==◌, ◌||◌, Bool, not, List, filter, length}

-- space, tab, carriage return and line feed, which stand between digits
abbrev pub is_blank : ℕ → Bool
is_blank b = b == 32 || b == 9 || b == 13 || b == 10

-- the digits of the input: all that is not a blank
abbrev pub digits_of : List ℕ → List ℕ
digits_of input = filter (λ b. not (is_blank b)) input

-- more digits than 2048 bytes have, or more bytes of any kind than are read
abbrev pub IsTooLong : List ℕ → Type 0
IsTooLong input = (4096 < length (digits_of input)) ⊎ (65536 < length input)
