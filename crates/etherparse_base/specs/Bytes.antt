-- Lists of bytes.
use Rattle.std.specs.Prelude.{ℕ, ◌<◌, List, [], ◌∷◌, slice_index}
use Rattle.std.specs.Int.{from_be_bytes, w16}

-- every number of the list is a byte, from 0 to 255; past the end `slice_index` is 0
abbrev pub IsBytes : List ℕ → Type 0
IsBytes xs = (i : ℕ) → slice_index xs i < 256

-- the words of two bytes in network byte order; a last byte alone is in none of them
abbrev pub words_of : List ℕ → List ℕ
words_of (high ∷ low ∷ bytes) = from_be_bytes w16 (high ∷ low ∷ []) ∷ words_of bytes
words_of bytes = []
