-- The table of the fragments that have come. For each 8 bytes, a unit, it has 0 if they have not
-- come, 1 if a fragment begins with them, and 2 if one goes on with them.
use Rattle.std.specs.Prelude.{ℕ, ◌≡◌, ◌+◌, ◌-◌, ◌*◌, ◌/◌, ◌%◌, ◌<◌, ◌≤◌, ◌⊎◌, List, length, min}
use Rattle.std.specs.Prelude.{Bool, true, false, Option, Some, None, cond, map, filter, Contains}
use Rattle.std.specs.Prelude.{count_by, drop}
use Rattle.std.specs.Prelude.{slice_index, slice_range, ◌==◌, ◌&&◌, not}
use Rattle.std.specs.List.{prefix_len, range_with_len}
use Rattle.packet_reassembly.specs.declared.ip_frag_range.IpFragRange.{IpFragRange}
use Rattle.packet_reassembly.specs.declared.table.Extent.{Extent}
use Rattle.packet_reassembly.specs.declared.table.Arrival.{Arrival}
use Rattle.packet_reassembly.specs.declared.table.Arrival.TheVariants.{New, Same}
use Rattle.packet_reassembly.specs.declared.table.Arrival.TheVariants.{Conflict as Contradicts}
use Rattle.packet_reassembly.specs.Fragment.{Conflict, Fragment}

-- the unit k has come
abbrev pub HasCome : List ℕ → ℕ → Type 0
HasCome units k = 0 < slice_index units k

-- a fragment begins with the unit k
abbrev pub Begins : List ℕ → ℕ → Type 0
Begins units k = slice_index units k ≡ 1

-- the unit after those of the fragment that begins with the unit k
abbrev pub past : List ℕ → ℕ → ℕ
past units k = k + 1 + prefix_len (λ u. u == 2) (drop (k + 1) units)

-- the unit after those of the range
abbrev pub units_to : IpFragRange → ℕ
units_to range = (range.end + 7) / 8

-- the unit k is one of those of the range after its first
abbrev pub IsInside : IpFragRange → ℕ → Type 0
IsInside range k = (range.start / 8 < k) × (k < units_to range)

-- how many units the range has
abbrev pub units_at : IpFragRange → ℕ
units_at range = units_to range - range.start / 8

-- whether more fragments follow one that is kept and ends at this place
abbrev pub has_more : Extent → ℕ → Bool
has_more extent end = not (extent.ended && (end == extent.reach))

-- the range of the units from k up to p; only the last unit of a datagram can have fewer than 8
-- bytes
abbrev pub range_to : Extent → ℕ → ℕ → IpFragRange
range_to extent k p = record {
  start = 8 * k;
  end = min extent.reach (8 * p);
  more_fragments = has_more extent (min extent.reach (8 * p));
}

-- the range of the fragment that begins with the unit k
abbrev pub range_at : List ℕ → Extent → ℕ → IpFragRange
range_at units extent k = range_to extent k (past units k)

-- the fragment that a range of the memory holds
abbrev pub fragment_in : List ℕ → IpFragRange → Fragment
fragment_in bytes range = record {
  start = range.start;
  more = range.more_fragments;
  bytes = slice_range bytes range.start range.end;
}

-- the fragment that has a range
abbrev pub fragment_of : IpFragRange → List ℕ → Fragment
fragment_of range payload = record {
  start = range.start;
  more = range.more_fragments;
  bytes = payload;
}

-- how many units have come
abbrev pub units_in : List ℕ → ℕ
units_in units = count_by (λ u. not (u == 0)) units

-- the fragments that are kept: one for each unit with which a fragment begins
abbrev pub held : List ℕ → List ℕ → Extent → List Fragment
held bytes units extent = map (λ k. fragment_in bytes (range_at units extent k))
    (filter (λ k. slice_index units k == 1) (range_with_len 0 (length units)))

-- what is kept; nothing, once it is discarded
abbrev pub kept : Bool → List ℕ → List ℕ → Extent → Option (List Fragment)
kept discarded bytes units extent = cond discarded None (Some (held bytes units extent))

-- The table is that of a datagram that goes so far. Each unit that has come is one of a fragment,
-- and the last of them is that of the last byte that has come.
pub record IsTable (units : List ℕ) (extent : Extent) : Type 0 where
  pub len : 8192 ≤ length units
  pub limit : extent.reach ≤ 65535
  pub marks : (k : ℕ) → slice_index units k ≤ 2
  pub begun : (k : ℕ) → HasCome units k
      → (j : ℕ) × (j ≤ k) × Begins units j × (k < past units j)
  pub within : (k : ℕ) → HasCome units k → 8 * k < extent.reach
  pub reached : 0 < extent.reach → HasCome units ((extent.reach - 1) / 8)
  pub unit : extent.ended ≡ false → extent.reach % 8 ≡ 0
  pub ended : extent.ended ≡ true → 0 < extent.reach
  pub count : extent.units ≡ units_in units

-- the memory has room for a datagram, and the table says which fragments it holds
pub record AreKept (bytes : List ℕ) (units : List ℕ) (extent : Extent) : Type 0 where
  pub room : 65535 ≤ length bytes
  pub table : IsTable units extent

-- the table, once a fragment at this range is noted in it
pub record IsMarked (old : List ℕ) (range : IpFragRange) (new : List ℕ) : Type 0 where
  pub len : length new ≡ length old
  pub begins : Begins new (range.start / 8)
  pub inside : (k : ℕ) → IsInside range k → slice_index new k ≡ 2
  pub outside : (k : ℕ) → (k < range.start / 8) ⊎ (units_to range ≤ k)
      → slice_index new k ≡ slice_index old k

-- a fragment that a datagram can have can be at this range
pub record IsRange (range : IpFragRange) : Type 0 where
  pub some : range.start < range.end
  pub unit : range.start % 8 ≡ 0
  pub more : range.more_fragments ≡ true → range.end % 8 ≡ 0
  pub limit : range.end ≤ 65535

-- one with this payload can
pub record Fits (range : IpFragRange) (payload : List ℕ) : Type 0 where
  pub right : IsRange range
  pub len : range.start + length payload ≡ range.end

-- nothing of the range has come, it does not go past the end, nor is the end before what has come
pub record IsNew (units : List ℕ) (extent : Extent) (range : IpFragRange) : Type 0 where
  pub clear : (k : ℕ) → range.start ≤ 8 * k → 8 * k < range.end → slice_index units k ≡ 0
  pub before_end : extent.ended ≡ true → range.end ≤ extent.reach
  pub at_end : range.more_fragments ≡ false → extent.reach ≤ range.end

-- how the fragment stands to those that are kept
abbrev pub Arrives : List ℕ → List ℕ → Extent → IpFragRange → List ℕ → Arrival → Type 0
Arrives bytes units extent range payload New = IsNew units extent range
Arrives bytes units extent range payload Same =
    Contains (held bytes units extent) (fragment_of range payload)
Arrives bytes units extent range payload Contradicts = (f : Fragment)
    × Contains (held bytes units extent) f × Conflict f (fragment_of range payload)
