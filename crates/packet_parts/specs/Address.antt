-- The text of an IPv6 address (RFC 5952).
use Rattle.std.specs.Prelude.{ℕ, ◌≡◌, ◌+◌, ◌≤◌, List, [], ◌∷◌, ◌++◌, length, codes, drop, take}
use Rattle.std.specs.Prelude.{replicate}
use Rattle.std.specs.Net.Addr.{octets_of}
use Rattle.std.specs.Net.Text.{groups_text, ipv4_text}

-- this many fields of 16 bits are 0, from this one on
abbrev pub AreZeroFields : List ℕ → ℕ → ℕ → Type 0
AreZeroFields fields start len =
    (start + len ≤ length fields) × (take len (drop start fields) ≡ replicate len 0)

-- The fields for which `::` stands: at least two (section 4.2.2), the longest run, and of equal
-- runs the first (section 4.2.3).
pub record AreShortened (fields : List ℕ) (start len : ℕ) : Type 0 where
  pub zeros : AreZeroFields fields start len
  pub several : 2 ≤ len
  pub longest : (s l : ℕ) → AreZeroFields fields s l → l ≤ len
  pub first : (s : ℕ) → AreZeroFields fields s len → start ≤ s

-- the address is an IPv4 address in the well-known prefix ::ffff:0:0/96 (RFC 4291 section 2.5.5.2)
abbrev pub IsMapped : List ℕ → Type 0
IsMapped fields = take 6 fields ≡ 0 ∷ 0 ∷ 0 ∷ 0 ∷ 0 ∷ 0xffff ∷ []

-- The text of the eight fields of an address. Each field is in lower-case hex with no leading zeros
-- (sections 4.1 and 4.3), with a colon between two of them; the zero fields that are shortened
-- become `::`; an IPv4-mapped address ends in its IPv4 address (section 5).
pub record IsIpv6Text (fields text : List ℕ) : Type 0 where
  pub mapped : IsMapped fields → text ≡ codes "::ffff:" ++ ipv4_text (octets_of (drop 6 fields))
  pub shortened : ¬ IsMapped fields → (start len : ℕ) → AreShortened fields start len
      → text ≡ groups_text (take start fields) ++ codes "::"
      ++ groups_text (drop (start + len) fields)
  pub plain : ¬ IsMapped fields → ((start len : ℕ) → ¬ AreShortened fields start len)
      → text ≡ groups_text fields
