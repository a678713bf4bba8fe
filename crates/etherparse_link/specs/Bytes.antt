-- Numbers and addresses in the bytes of a header.
use Rattle.std.specs.Prelude.{ℕ, ◌≡◌, ◌+◌, List, min, slice_range, take}
use Rattle.std.specs.Int.{from_be_bytes, w16}

-- two bytes at a place as a number, in network byte order
abbrev pub number_at : ℕ → List ℕ → ℕ
number_at place s = from_be_bytes w16 (slice_range s place (place + 2))

-- the address in a field: as many bytes as its length says, of at most 8 that are there
abbrev pub address_in : ℕ → List ℕ → List ℕ
address_in len field = take (min len 8) field

-- the bytes have the layout of this header, and of no other
abbrev pub IsOnlyHeader : {H : Type 0} → (H → List ℕ → Type 0) → H → List ℕ → Type 0
IsOnlyHeader {H} Layout header bytes = (other : H) → Layout other bytes → other ≡ header
