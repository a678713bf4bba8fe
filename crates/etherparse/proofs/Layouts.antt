-- A header as a list of fields: its bytes tell the fields, and the fields its bytes.
use Rattle.std.proofs.Common.{ℕ, ◌≡◌, ◌+◌, ◌-◌, ◌^◌, ◌<◌, ◌≤◌, List, [], ◌∷◌, ◌++◌, length, length-append, drop, drop-drop, sym, ap, ◌∙◌, arith, slice_index, drop_at, take_at}
use Rattle.std.specs.Int.{from_be_bytes, to_be_bytes, w16, w32}
use Rattle.std.specs.List.{AllByRecursion, slice_range}
use Rattle.std.proofs.lemmas.Grind.{common_steps}
use Rattle.std.proofs.lemmas.List.Edits.{between_none, get_or-between}
use Rattle.std.proofs.lemmas.List.Folds.{drop_split}
use Rattle.std.proofs.lemmas.Nat.{be_bytes_2, be_bytes_4, from_be_bytes-to_be_bytes_2, from_be_bytes-to_be_bytes_4}
use Rattle.etherparse_base.specs.Bytes.{IsBytes}
use Rattle.etherparse.proofs.Parts.{part_is_bytes, same_append}

-- a field of whole bytes: a number of one, two or four bytes, the high one first, or an array of so many bytes
pub data Field : Type 0 where
  u8 : ℕ → Field
  u16 : ℕ → Field
  u32 : ℕ → Field
  array : ℕ → List ℕ → Field

abbrev pub width : Field → ℕ
width (u8 n) = 1
width (u16 n) = 2
width (u32 n) = 4
width (array k xs) = k

abbrev pub width_of_all : List Field → ℕ
width_of_all [] = 0
width_of_all (f ∷ fields) = width f + width_of_all fields

-- a field in a list of bytes, at this place
abbrev pub IsAt : List ℕ → ℕ → Field → Type 0
IsAt p at (u8 n) = slice_index p at ≡ n
IsAt p at (u16 n) = from_be_bytes w16 (slice_range p at (at + 2)) ≡ n
IsAt p at (u32 n) = from_be_bytes w32 (slice_range p at (at + 4)) ≡ n
IsAt p at (array k xs) = slice_range p at (at + k) ≡ xs

-- fields from a place on, and what follows them
abbrev pub AreAt : List ℕ → ℕ → List Field → List ℕ → Type 0
AreAt p at [] rest = drop at p ≡ rest
AreAt p at (f ∷ fields) rest = IsAt p at f × AreAt p (at + width f) fields rest

-- the bytes of fields, and what follows them
abbrev pub bytes_of : Field → List ℕ
bytes_of (u8 n) = n ∷ []
bytes_of (u16 n) = to_be_bytes w16 n
bytes_of (u32 n) = to_be_bytes w32 n
bytes_of (array k xs) = xs

abbrev pub written : List Field → List ℕ → List ℕ
written [] rest = rest
written (f ∷ fields) rest = bytes_of f ++ written fields rest

-- bytes are told by their fields
told_at : (p : List ℕ) (at : ℕ) (f : Field) → IsBytes p → at + width f ≤ length p → IsAt p at f → slice_range p at (at + width f) ≡ bytes_of f
told_at p at (u8 n) are_bytes h e = grind (arith, common_steps, between_none)
told_at p at (u16 n) are_bytes h e = sym (be_bytes_2 _ n (grind (arith, common_steps)) (part_is_bytes p at (at + 2) are_bytes) (sym e))
told_at p at (u32 n) are_bytes h e = sym (be_bytes_4 _ n (grind (arith, common_steps)) (part_is_bytes p at (at + 4) are_bytes) (sym e))
told_at p at (array k xs) are_bytes h e = e

pub told : (p : List ℕ) (at : ℕ) (fields : List Field) (rest : List ℕ) → IsBytes p → at + width_of_all fields ≤ length p → AreAt p at fields rest
    → drop at p ≡ written fields rest
told p at [] rest are_bytes h e = e
told p at (f ∷ fields) rest are_bytes h e = drop_split p at (at + width f) (omega arith)
    ∙ same_append (told_at p at f are_bytes (omega arith) e.0) (told p (at + width f) fields rest are_bytes (omega arith) e.1)

-- what a field needs for its bytes to give it back
abbrev pub Fits : Field → Type 0
Fits (u8 n) = Unit {0}
Fits (u16 n) = n < 2 ^ 16
Fits (u32 n) = n < 2 ^ 32
Fits (array k xs) = length xs ≡ k

-- what is read from two bytes fits
pub from_be_bytes-lt : (p : List ℕ) (at end : ℕ) → IsBytes p → from_be_bytes w16 (slice_range p at end) < 2 ^ 16
from_be_bytes-lt p at end are_bytes = let bytes = part_is_bytes p at end are_bytes in omega (arith, bytes 0, bytes 1)

-- fields that are written are read back
length-bytes_of : (f : Field) → Fits f → length (bytes_of f) ≡ width f
length-bytes_of f fits = grind arith

pub length-written : (fields : List Field) (rest : List ℕ) → AllByRecursion Fits fields → length (written fields rest) ≡ width_of_all fields + length rest
length-written [] rest fit = omega arith
length-written (f ∷ fields) rest fit =
    omega (arith, length-append (bytes_of f) (written fields rest), length-bytes_of f fit.0, length-written fields rest fit.1)

written_at : (p : List ℕ) (at : ℕ) (f : Field) → Fits f → slice_range p at (at + width f) ≡ bytes_of f → IsAt p at f
written_at p at (u8 n) fits e = grind (arith, common_steps, get_or-between)
written_at p at (u16 n) fits e = ap (from_be_bytes w16) e ∙ from_be_bytes-to_be_bytes_2 n fits
written_at p at (u32 n) fits e = ap (from_be_bytes w32) e ∙ from_be_bytes-to_be_bytes_4 n fits
written_at p at (array k xs) fits e = e

pub read_back : (p : List ℕ) (at : ℕ) (fields : List Field) (rest : List ℕ) → AllByRecursion Fits fields → drop at p ≡ written fields rest → AreAt p at fields rest
read_back p at [] rest fit e = e
read_back p at (f ∷ fields) rest fit e =
    let len = length-bytes_of f fit.0 in
    let taken : at + width f - at ≡ width f = omega arith in
    let part : slice_range p at (at + width f) ≡ bytes_of f = rw (taken, e) (take_at (bytes_of f) (written fields rest) (width f) len) in
    let later : drop (at + width f) p ≡ written fields rest = sym (drop-drop (width f) at p) ∙ rw e (drop_at (bytes_of f) (written fields rest) (width f) len) in
    (written_at p at f fit.0 part, read_back p (at + width f) fields rest fit.1 later)
