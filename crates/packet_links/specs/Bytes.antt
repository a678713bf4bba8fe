-- Numbers and flags in the bytes of a frame. A byte after its end counts as 0.
use Rattle.std.specs.Prelude.{ℕ, ◌+◌, ◌==◌, ◌/◌, ◌%◌, ◌^◌, Bool, List, [], ◌∷◌, slice_index}
use Rattle.std.specs.Int.{from_be_bytes, w16}

-- two bytes at a place as a number, in network byte order
abbrev pub number_at : ℕ → List ℕ → ℕ
number_at place frame =
    from_be_bytes w16 (slice_index frame place ∷ slice_index frame (place + 1) ∷ [])

-- a byte has a value
abbrev pub has : ℕ → ℕ → List ℕ → Bool
has value place frame = slice_index frame place == value

-- a bit of a byte is set; bit 0 is the lowest
unfoldable pub is_set : ℕ → ℕ → List ℕ → Bool
is_set bit place frame = slice_index frame place / 2 ^ bit % 2 == 1
