-- The fragments of one datagram (RFC 791 section 3.2, RFC 8200 section 4.5).
use Rattle.std.specs.Prelude.{ℕ, ◌≡◌, ◌≢◌, ◌+◌, ◌*◌, ◌/◌, ◌%◌, ◌<◌, ◌≤◌, ◌↔◌, ◌⊎◌, List, length}
use Rattle.std.specs.Prelude.{Bool, true, false, Option, Some, None, slice_range, [], ◌∷◌, ◌++◌}
use Rattle.std.specs.List.{Contains}

-- a fragment: the place of its first byte, whether more follow it, and its bytes
pub record Fragment : Type 0 where
  pub start : ℕ
  pub more : Bool
  pub bytes : List ℕ

-- the place after its last byte
abbrev pub end_of : Fragment → ℕ
end_of f = f.start + length f.bytes

-- how many units of 8 bytes it has, the last of which can be shorter
abbrev pub units_of : Fragment → ℕ
units_of f = (length f.bytes + 7) / 8

-- it has the byte at this place
abbrev pub Covers : Fragment → ℕ → Type 0
Covers f i = (f.start ≤ i) × (i < end_of f)

-- they have a place in common
abbrev pub Overlap : Fragment → Fragment → Type 0
Overlap f g = (f.start < end_of g) × (g.start < end_of f)

-- f ends the datagram, and g goes on after that end
abbrev pub GoesPast : Fragment → Fragment → Type 0
GoesPast f g = (f.more ≡ false) × (end_of f < end_of g)

-- no datagram has both: they overlap and are not the same, or one goes past the end that the other
-- tells
abbrev pub Conflict : Fragment → Fragment → Type 0
Conflict f g = ((f ≢ g) × Overlap f g) ⊎ GoesPast f g ⊎ GoesPast g f

-- the fragment is the piece of the datagram at its place, and tells whether it is the last
pub record IsPieceOf (datagram : List ℕ) (f : Fragment) : Type 0 where
  pub within : end_of f ≤ length datagram
  pub bytes : f.bytes ≡ slice_range datagram f.start (end_of f)
  pub last : (f.more ≡ false) ↔ (end_of f ≡ length datagram)

-- The fragments are a datagram cut into pieces, in any order and with repetitions: each is a piece
-- of it, each byte of it is in one, and two that overlap are the same.
pub record AreCutFrom (datagram : List ℕ) (fragments : List Fragment) : Type 0 where
  pub some : 0 < length datagram
  pub pieces : (f : Fragment) → Contains fragments f → IsPieceOf datagram f
  pub covered : (i : ℕ) → i < length datagram → (f : Fragment) × Contains fragments f × Covers f i
  pub apart : (f g : Fragment) → Contains fragments f → Contains fragments g → Overlap f g → f ≡ g

-- a fragment that can be one of a datagram of at most 65535 bytes: it has a byte; and a multiple of
-- 8 bytes, if more follow it
pub record IsRight (f : Fragment) : Type 0 where
  pub some : 0 < length f.bytes
  pub units : f.more ≡ true → length f.bytes % 8 ≡ 0
  pub within : end_of f ≤ 65535

-- the fragment with this offset, which counts units of 8 bytes
abbrev pub fragment : ℕ → Bool → List ℕ → Fragment
fragment offset more bytes = record { start = 8 * offset; more = more; bytes = bytes }

-- the same fragments, however often and in whichever order
abbrev pub HaveSame : List Fragment → List Fragment → Type 0
HaveSame xs ys = (f : Fragment) → (Contains xs f ↔ Contains ys f)

-- What is kept once a fragment has come: it is added, or is there already; or nothing is, for good,
-- if it conflicts with one that has come.
abbrev pub Takes : Option (List Fragment) → Fragment → Option (List Fragment) → Type 0
Takes None f new = new ≡ None
Takes (Some old) f None = (g : Fragment) × Contains old g × Conflict g f
Takes (Some old) f (Some new) =
    ((g : Fragment) → Contains old g → ¬ Conflict g f) × HaveSame new (old ++ f ∷ [])

-- what is kept is a whole datagram, cut into pieces
abbrev pub IsWhole : Option (List Fragment) → List ℕ → Type 0
IsWhole None datagram = ⊥
IsWhole (Some fragments) datagram = AreCutFrom datagram fragments
