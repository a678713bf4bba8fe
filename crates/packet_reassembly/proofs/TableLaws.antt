-- the table of the fragments that have come: what it holds, what a new fragment changes, and when the datagram is whole
use Rattle.std.proofs.Common.{ℕ, ◌≡◌, ◌≢◌, ◌+◌, ◌-◌, ◌*◌, ◌/◌, ◌%◌, ◌<◌, ◌≤◌, ◌⊎◌, ◌==◌, ◌&&◌, min, ◌↔◌, [], ◌∷◌, List, length, arith, inl, inr, Bool, true, false, ap, subst, sym, ◌∙◌, refl, take, drop, slice_index, slice_range, cond, not, suc, zero, ◌||◌, max, Some, length-append, length-take, length-drop, map, Option}
use Rattle.std.proofs.lemmas.Bool.{cases_Bool, cases_lt, cases_order, eqb-true, eq-eqb, cases_eq, ne_eqb, not-false, or_parts}
use Rattle.std.proofs.lemmas.Bool.Decides.{nat_tests}
use Rattle.std.proofs.lemmas.List.{get_or-drop, get_or_past, length-drop, length-take-le, take-take}
use Rattle.std.proofs.lemmas.List.Edits.{length-between}
use Rattle.std.proofs.lemmas.List.Elements.{All-contains, All-map, Contains-append_left, Contains-append_right, Contains-push, filter_passes, Contains-push_cases}
use Rattle.std.proofs.lemmas.List.FromFn.{get_or-range_with_len, length-range_with_len}
use Rattle.std.proofs.lemmas.List.Sums.{prefix_len_passes, prefix_len_stops, sum_by-cons, count_by-le-length}
use Rattle.std.specs.List.{Contains, filter, prefix_len, range_with_len}
use Rattle.packet_reassembly.specs.declared.table.Arrival.TheVariants.{Conflict as Contradicts}
use Rattle.packet_reassembly.specs.declared.table.Extent.{Extent}
use Rattle.packet_reassembly.specs.declared.ip_frag_range.IpFragRange.{IpFragRange}
use Rattle.packet_reassembly.specs.Fragment.{AreCutFrom, Conflict, Covers, Fragment, GoesPast, end_of, Takes, IsPieceOf, IsWhole, Overlap}
use Rattle.packet_reassembly.specs.Table.{AreKept, Arrives, Begins, Fits, HasCome, IsInside, IsNew, IsRange, IsTable, fragment_in, fragment_of, has_more, held, past, range_at, units_in, units_to, IsMarked, units_at, kept}
use borrow.Rule.Slice.PartMut.{put_mid}
use Rattle.std.proofs.lemmas.Slice.{between-put_mid, between_is, drop-put_mid, take-put_mid_below}
use Rattle.packet_reassembly.proofs.Arrivals.{one_cut}

-- one unit more, which has come or has not
units_cons : (u : ℕ) (us : List ℕ) → ((0 < u) × (units_in (u ∷ us) ≡ units_in us + 1)) ⊎ ((u ≡ 0) × (units_in (u ∷ us) ≡ units_in us))
units_cons u us = grind (arith, nat_tests, sum_by-cons (λ x. cond (not (x == 0)) 1 0) u us)

-- no unit has come from this one on
abbrev pub EndsAt : List ℕ → ℕ → Type 0
EndsAt units n = (k : ℕ) → n ≤ k → slice_index units k ≡ 0

-- there are fewer if one has not come
fewer : (units : List ℕ) (n k : ℕ) → EndsAt units n → k < n → slice_index units k ≡ 0 → units_in units < n
fewer [] n k ends below none = omega arith
fewer (u ∷ us) zero k ends below none = absurd (omega arith)
fewer (u ∷ us) (suc n) zero ends below none =
    grind (arith, units_cons u us, fewer us (suc n) n (λ j from. ends (suc j) (omega arith)) (omega arith) (ends (suc n) (omega arith)))
fewer (u ∷ us) (suc n) (suc k) ends below none =
    omega (arith, units_cons u us, fewer us n k (λ j from. ends (suc j) (omega arith)) (omega arith) none)

-- so many have come if each has
pub many_come : (units : List ℕ) (n : ℕ) → ((k : ℕ) → k < n → HasCome units k) → n ≤ units_in units
many_come [] n each = grind (arith, each 0)
many_come (u ∷ us) n each =
    grind (arith, units_cons u us, each 0, many_come us (n - 1) (λ k below. each (suc k) (omega arith)))

-- n units more from the unit a on
pub more_come : (old new : List ℕ) (a n : ℕ) → length new ≡ length old → a + n ≤ length old
    → ((k : ℕ) → ((a ≤ k) × (k < a + n) × (slice_index old k ≡ 0) × (0 < slice_index new k)) ⊎ (((k < a) ⊎ (a + n ≤ k)) × (slice_index new k ≡ slice_index old k)))
    → units_in new ≡ units_in old + n
more_come [] ys a n len room each = omega (arith, count_by-le-length (λ u. not (u == 0)) ys)
more_come (x ∷ xs) [] a n len room each = absurd (omega arith)
more_come (x ∷ xs) (y ∷ ys) a n len room each =
    let rest = more_come xs ys (a - 1) (n - (1 - a)) (omega arith) (omega arith) (λ k. grind (arith, each (suc k))) in
    grind (arith, units_cons x xs, units_cons y ys, each 0, rest)

-- an empty table is that of a datagram of which nothing has come
pub table_none : (units : List ℕ) → 8192 ≤ length units → ((k : ℕ) → slice_index units k ≡ 0) → IsTable units (record { reach = 0; ended = false; units = 0 })
table_none units len empty = search (arith, empty, fewer units 1 0 (λ k _. empty k) (omega arith) (empty 0))

-- whether a fragment that is kept is the last of the datagram
pub last_is : (extent : Extent) (end : ℕ) → (has_more extent end ≡ false) ↔ ((extent.ended ≡ true) × (end ≡ extent.reach))
last_is extent end = (λ e. grind (arith, nat_tests), λ e. grind (arith, nat_tests))

module _ (units : List ℕ) where
  -- the units of a fragment after its first
  pub inside : (k j : ℕ) → k < j → j < past units k → slice_index units j ≡ 2
  inside k j after before = grind (arith, nat_tests, prefix_len_passes (λ u. u == 2) (drop (k + 1) units) (j - (k + 1)) 0, get_or-drop (k + 1) units (j - (k + 1)) 0)

  -- the unit after its last
  pub not_past : (k : ℕ) → slice_index units (past units k) ≢ 2
  not_past k e = grind (arith, nat_tests, prefix_len_stops (λ u. u == 2) (drop (k + 1) units) 0, get_or-drop (k + 1) units (prefix_len (λ u. u == 2) (drop (k + 1) units)) 0, get_or_past units (past units k) 0, length-drop (k + 1) units)

  -- only one unit can be the one after its last
  pub past_is : (k n : ℕ) → k < n → ((j : ℕ) → k < j → j < n → slice_index units j ≡ 2) → slice_index units n ≢ 2 → past units k ≡ n
  past_is k n after all stops = grind (arith, not_past k, all (past units k), inside k n)

  -- a fragment ends before the next begins
  pub in_order : (j k : ℕ) → Begins units k → j < k → past units j ≤ k
  in_order j k begins before = grind (arith, inside j k before)

  -- the units of a fragment have come
  pub come : (k j : ℕ) → Begins units k → k ≤ j → j < past units k → HasCome units j
  come k j begins from below = grind (arith, inside k j)

-- what passes is kept
kept_by : (p : ℕ → Bool) (f : ℕ → Fragment) (xs : List ℕ) (k : ℕ) → k < length xs → p (slice_index xs k) ≡ true → Contains (map f (filter p xs)) (f (slice_index xs k))
kept_by p f [] k within is = absurd (omega arith)
kept_by p f (x ∷ xs) zero within is = rw is (0, omega arith, refl)
kept_by p f (x ∷ xs) (suc k) within is =
    let rest = kept_by p f xs k (omega arith) is in elim (cases_Bool (p x)) [ inl t ↦ rw t (Contains-append_right (f x ∷ []) _ _ rest) | inr e ↦ rw e rest ]

-- the fragment that begins with a unit
abbrev pub held_at : List ℕ → List ℕ → Extent → ℕ → Fragment
held_at bytes units extent k = fragment_in bytes (range_at units extent k)

-- the fragment is that of a unit
pub record IsHeld (bytes units : List ℕ) (extent : Extent) (f : Fragment) : Type 0 where
  pub at : ℕ
  pub begins : Begins units at
  pub is : held_at bytes units extent at ≡ f

pub held_from_Contains : (bytes units : List ℕ) (extent : Extent) (f : Fragment) → Contains (held bytes units extent) f → IsHeld bytes units extent f
held_from_Contains bytes units extent f = All-contains (IsHeld bytes units extent) (held bytes units extent) f (All-map (IsHeld bytes units extent) (held_at bytes units extent) _
    (λ i d w. record { at = _; begins = eqb-true _ 1 (filter_passes (λ k. slice_index units k == 1) _ i d w); is = refl }))

pub Contains_from_held : (bytes units : List ℕ) (extent : Extent) (k : ℕ) → Begins units k → Contains (held bytes units extent) (held_at bytes units extent k)
Contains_from_held bytes units extent k begins =
    let all : List ℕ = range_with_len 0 (length units) in
    let within : k < length units = grind (arith, get_or_past units k 0) in
    let is : slice_index all k ≡ k = get_or-range_with_len 0 (length units) k 0 within ∙ omega arith in
    rw is at (kept_by (λ j. slice_index units j == 1) (held_at bytes units extent) all k (omega (arith, length-range_with_len 0 (length units))) (rw is (eq-eqb (slice_index units k) 1 begins)))

-- a fragment that is new is not held
pub new_not_held : (bytes units payload : List ℕ) (extent : Extent) (range : IpFragRange) → IsRange range → IsNew units extent range → ¬ Contains (held bytes units extent) (fragment_of range payload)
new_not_held bytes units payload extent range right is_new has =
    let h = held_from_Contains bytes units extent (fragment_of range payload) has in
    let start : 8 * h.at ≡ range.start = ap (λ f. f.start) h.is in
    let none = is_new.clear h.at (omega arith) (omega (arith, right.some)) in
    omega (arith, h.begins, none)

-- an empty table holds nothing
no_member : (xs : List Fragment) → ((f : Fragment) → ¬ Contains xs f) → xs ≡ []
no_member [] without = refl
no_member (f ∷ fs) without = absurd (without f (0, omega arith, refl))

pub held_none : (bytes units : List ℕ) (extent : Extent) → ((k : ℕ) → slice_index units k ≡ 0) → held bytes units extent ≡ []
held_none bytes units extent empty = no_member (held bytes units extent) (λ f has. let h = held_from_Contains bytes units extent f has in omega (arith, empty h.at, h.begins))

pub range_is : (units : List ℕ) (extent : Extent) (k : ℕ) (range : IpFragRange) → 8 * k ≡ range.start → (range_at units extent k).end ≡ range.end → has_more extent range.end ≡ range.more_fragments → range_at units extent k ≡ range
range_is units extent k range start end more = let own = ap (has_more extent) end ∙ more in rw (own, start, end)

-- a fragment that ends in the same unit ends at the same byte
same_end : (ended more : Bool) (reach end : ℕ) → (more ≡ true → end % 8 ≡ 0) → (more ≡ false → end ≡ reach) → (ended ≡ true → end ≤ reach) → (ended ≡ false → reach % 8 ≡ 0)
    → 8 * ((end + 7) / 8 - 1) < reach → min reach (8 * ((end + 7) / 8)) ≡ end
same_end ended false reach end unit last before all some = let h = last refl in omega arith
same_end true true reach end unit last before all some = let u = unit refl in let h = before refl in omega arith
same_end false true reach end unit last before all some = let u = unit refl in let h = all refl in omega arith

-- whether a fragment has the range of the one that begins with the same unit
module _ {units : List ℕ} {extent : Extent} {range : IpFragRange} (table : IsTable units extent) (is : IsRange range) (begins : Begins units (range.start / 8)) where
  pub same_if : (n : ℕ) → n ≡ units_to range → ((k : ℕ) → IsInside range k → ¬ Begins units k) → (extent.ended ≡ true → range.end ≤ extent.reach) → range.more_fragments ≡ has_more extent range.end
      → ((HasCome units (n - 1) × (slice_index units n ≢ 2)) ↔ (range_at units extent (range.start / 8) ≡ range))
  same_if n is_n alone before_end more =
      let first : ℕ = range.start / 8 in (
        λ t.
            let (k, le, own, below) = table.begun (n - 1) t.0 in
            let some : first < n = omega (arith, is.some, is.unit) in
            let here : k ≡ first = elim (cases_order k first) [
              | inl e ↦ e
              | inr (inl l) ↦ absurd (let passed = in_order units k first begins l in omega arith)
              | inr (inr l) ↦ absurd (alone k (l, omega arith) own)
            ] in
            let last = rw here at below in
            let to : past units first ≡ units_to range = elim (cases_lt n (past units first)) [ inl l ↦ absurd (t.1 (inside units first n some l)) | inr l ↦ omega arith ] in
            let at_end : range.more_fragments ≡ false → range.end ≡ extent.reach = λ e. ((last_is extent range.end).0 (sym more ∙ e)).1 in
            let within = rw is_n at (table.within (n - 1) t.0) in
            let end : (range_at units extent first).end ≡ range.end = rw to (same_end extent.ended range.more_fragments extent.reach range.end is.more at_end before_end table.unit within) in
            range_is units extent first range (omega arith) end (sym more),
        λ same.
            let last = table.within (past units first - 1) (come units first (past units first - 1) begins (omega arith) (omega arith)) in
            let to : past units first ≡ n = omega (arith, ap (λ r. r.end) same) in
            (come units first (n - 1) begins (omega arith) (omega arith), rw to at (not_past units first)),
      )

-- the unit is free: so are all that follow, if no fragment begins with one
pub all_new : {units : List ℕ} {extent : Extent} {range : IpFragRange} → IsTable units extent → IsRange range → slice_index units (range.start / 8) ≡ 0 → ((k : ℕ) → IsInside range k → ¬ Begins units k)
    → (extent.ended ≡ true → range.end ≤ extent.reach) → (range.more_fragments ≡ false → extent.reach ≤ range.end) → IsNew units extent range
all_new {units = units} {range = range} table is free alone before_end at_end =
    let clear : (k : ℕ) → range.start ≤ 8 * k → 8 * k < range.end → slice_index units k ≡ 0 = λ k from to.
    let none : ¬ HasCome units k = λ some.
    let (j, le, begins, below) = table.begun k some in
    elim (cases_lt (range.start / 8) j) [
      | inl l ↦ alone j (l, omega arith) begins
      | inr l ↦ let has = come units j (range.start / 8) begins l (omega arith) in omega (arith, free)
    ] in omega arith in
    record { clear = clear; before_end = before_end; at_end = at_end }

module _ {bytes units : List ℕ} {extent : Extent} (are : AreKept bytes units extent) where
  -- where a fragment that is kept ends, in its units and in bytes
  pub reaches : (k j : ℕ) → Begins units k → k ≤ j → j < past units k → 8 * j < (range_at units extent k).end
  reaches k j begins from below = omega (arith, are.table.within j (come units k j begins from below))

  pub end_at : (k : ℕ) → Begins units k → end_of (held_at bytes units extent k) ≡ (range_at units extent k).end
  end_at k begins = omega (arith, reaches k k begins, length-between bytes (8 * k) (range_at units extent k).end, are.room, are.table.limit)

  -- the fragment that goes furthest
  pub furthest : 0 < extent.reach → (k : ℕ) × Begins units k × ((range_at units extent k).end ≡ extent.reach)
  furthest some =
      let (k, from, begins, below) = are.table.begun ((extent.reach - 1) / 8) (are.table.reached some) in
      (k, begins, omega arith)

  module _ {range : IpFragRange} {payload : List ℕ} (fits : Fits range payload) where
    -- one that has a unit of a fragment that is kept, and is not the same
    pub conflict_at : (k j : ℕ) → Begins units k → k ≤ j → j < past units k → range.start / 8 ≤ j → j < units_to range → (k ≡ range.start / 8 → held_at bytes units extent k ≢ fragment_of range payload)
        → Arrives bytes units extent range payload Contradicts
    conflict_at k j begins le below from to other =
        let right = fits.right in
        let apart : held_at bytes units extent k ≢ fragment_of range payload = λ is. let e = ap (λ f. f.start) is in other (omega arith) is in
        (held_at bytes units extent k, Contains_from_held bytes units extent k begins, inl (apart, (omega (arith, fits.len), omega (arith, end_at k begins, reaches k j begins le below))))

    -- one that goes past the end, and one that ends before what has come
    pub conflict_past : (extent.ended ≡ true) × (extent.reach < range.end) ⊎ (range.more_fragments ≡ false) × (range.end < extent.reach)
        → Arrives bytes units extent range payload Contradicts
    conflict_past past =
        let (k, begins, is) = furthest (grind (arith, past, are.table.ended)) in
        (held_at bytes units extent k, Contains_from_held bytes units extent k begins, inr (grind (arith, past, end_at k begins, fits.len, last_is extent (range_at units extent k).end)))

    -- a fragment is the same exactly if it has the same range and bytes
    pub same_parts : (k : ℕ) → Begins units k → held_at bytes units extent k ≡ fragment_of range payload
        → (range_at units extent k ≡ range) × (slice_range bytes range.start range.end ≡ payload)
    same_parts k begins is =
        let end : (range_at units extent k).end ≡ range.end = omega (arith, end_at k begins, ap end_of is, fits.len) in
        let e = range_is units extent k range (ap (λ f. f.start) is) end (rw end at (ap (λ f. f.more) is)) in
        (e, subst (λ r. slice_range bytes r.start r.end ≡ payload) e (ap (λ f. f.bytes) is))

-- two ranges have the later of their first units in common, if each begins before the other ends
in_both : (k past reach start end : ℕ) → k < past → start % 8 ≡ 0 → start < end → 8 * k < end → start < min reach (8 * past)
    → (k ≤ max k (start / 8)) × (max k (start / 8) < past) × (start ≤ 8 * max k (start / 8)) × (8 * max k (start / 8) < end)
in_both k past reach start end some unit range l r = (omega arith, omega arith, omega arith, omega arith)

-- the last unit of a range
last_in : (start end : ℕ) → start % 8 ≡ 0 → start < end → (start ≤ 8 * ((end + 7) / 8 - 1)) × (8 * ((end + 7) / 8 - 1) < end)
last_in start end unit some = (omega arith, omega arith)

-- whether more follow the new one
more_new : (ended more : Bool) (reach end : ℕ) → (more ≡ false → reach ≤ end) → (ended ≡ true → end < reach) → not ((ended || not more) && (end == max reach end)) ≡ more
more_new true true reach end at_end before = ap not (ne_eqb end (max reach end) (let h = before refl in omega arith))
more_new true false reach end at_end before = ap not (eq-eqb end (max reach end) (let h = at_end refl in omega arith))
more_new false true reach end at_end before = refl
more_new false false reach end at_end before = ap not (eq-eqb end (max reach end) (let h = at_end refl in omega arith))

-- and any other
more_other : (ended more : Bool) (reach end x : ℕ) → (more ≡ false → reach ≤ end) → (ended ≡ true → end ≤ reach) → x ≢ end
    → not ((ended || not more) && (x == max reach end)) ≡ not (ended && (x == reach))
more_other true more reach end x at_end before apart = let e : max reach end ≡ reach = (let h = before refl in omega arith) in rw e refl
more_other false true reach end x at_end before apart = refl
more_other false false reach end x at_end before apart = ap not (ne_eqb x (max reach end) (let h = at_end refl in omega arith))

-- a fragment that was there ends where it did
end_stays : (ended : Bool) (reach end past : ℕ) → (ended ≡ true → end ≤ reach) → (ended ≡ false → reach % 8 ≡ 0) → 8 * (past - 1) < reach
    → min (max reach end) (8 * past) ≡ min reach (8 * past)
end_stays true reach end past before unit last = let h = before refl in omega arith
end_stays false reach end past before unit last = let h = unit refl in omega arith

-- how far the datagram goes then
abbrev pub after : Extent → IpFragRange → ℕ → Extent
after extent range units = record { reach = max extent.reach range.end; ended = extent.ended || not range.more_fragments; units = units }

module _ {bytes payload old new : List ℕ} {extent : Extent} {range : IpFragRange} (kept : AreKept bytes old extent) (fits : Fits range payload) (is_new : IsNew old extent range) (marked : IsMarked old range new) where
  -- what the table had for a unit, and has
  unit : (k : ℕ) → ((range.start / 8 ≤ k) × (k < units_to range) × (slice_index old k ≡ 0) × (((k ≡ range.start / 8) × (slice_index new k ≡ 1)) ⊎ ((range.start / 8 < k) × (slice_index new k ≡ 2))))
      ⊎ (((k < range.start / 8) ⊎ (units_to range ≤ k)) × (slice_index new k ≡ slice_index old k))
  unit k = grind (arith, fits.right, is_new.clear k, marked.begins, marked.inside k, marked.outside k, cases_eq k (range.start / 8))

  -- a unit that has come stays as it is
  stays : (k n : ℕ) → slice_index old k ≡ n → 0 < n → slice_index new k ≡ n
  stays k n is some = grind (arith, unit k)

  -- so it still has come
  come_stays : (k : ℕ) → HasCome old k → HasCome new k
  come_stays k some = rw (stays k (slice_index old k) refl some) some

  -- nothing that is kept overlaps the new fragment
  no_overlap : (k : ℕ) → Begins old k → 8 * k < range.end → range.start < (range_at old extent k).end → ⊥
  no_overlap k begins l r =
      let (from, to, after_start, before_end) = in_both k (past old k) extent.reach range.start range.end (omega arith) fits.right.unit fits.right.some l r in
      let some = come old k (max k (range.start / 8)) begins from to in
      let none = is_new.clear (max k (range.start / 8)) after_start before_end in omega arith

  -- the unit after the last of a fragment, the new one and any other
  past_first : past new (range.start / 8) ≡ units_to range
  past_first = past_is new (range.start / 8) (units_to range) (omega (arith, fits.right.some)) (λ k l r. marked.inside k (l, r)) (λ two.
      let was : slice_index old (units_to range) ≡ 2 = sym (marked.outside (units_to range) (inr (omega arith))) ∙ two in
      let (j, le, begins, below) = kept.table.begun (units_to range) (omega arith) in
      let other : j ≢ units_to range = λ e. let own = rw e at begins in omega arith in
      let (after_start, before_end) = last_in range.start range.end fits.right.unit fits.right.some in
      let none = is_new.clear (units_to range - 1) after_start before_end in
      let some = come old j (units_to range - 1) begins (omega arith) (omega arith) in omega arith)

  past_other : (k : ℕ) → Begins old k → past new k ≡ past old k
  past_other k begins = past_is new k (past old k) (omega arith) (λ j l r. stays j 2 (inside old k j l r) (omega arith))
      (λ two. grind (arith, unit (past old k), not_past old k, come old k (past old k - 1) begins, unit (past old k - 1)))

  -- the new fragment has its range, and any other the one that it had
  range_new : (units : ℕ) → range_at new (after extent range units) (range.start / 8) ≡ range
  range_new units =
      let right = fits.right in
      let not_last : extent.ended ≡ true → range.end ≢ extent.reach = λ ended is.
      let (k, begins, at) = furthest kept (kept.table.ended ended) in no_overlap k begins (omega (arith, reaches kept k k begins)) (omega arith) in
      let end : (range_at new (after extent range units) (range.start / 8)).end ≡ range.end = rw past_first (elim (cases_Bool range.more_fragments) [ inl m ↦ omega (arith, right.more m) | inr m ↦ omega (arith, is_new.at_end m) ]) in
      range_is new (after extent range units) _ range (omega arith) end (more_new extent.ended range.more_fragments extent.reach range.end is_new.at_end (λ ended. let apart = not_last ended in omega (arith, is_new.before_end ended)))

  range_other : (units k : ℕ) → Begins old k → range_at new (after extent range units) k ≡ range_at old extent k
  range_other units k begins =
      let below = reaches kept k k begins (omega arith) (omega arith) in
      let last = kept.table.within (past old k - 1) (come old k (past old k - 1) begins (omega arith) (omega arith)) in
      let end : (range_at new (after extent range units) k).end ≡ (range_at old extent k).end = rw (past_other k begins) (end_stays extent.ended extent.reach range.end (past old k) is_new.before_end kept.table.unit last) in
      let apart : (range_at old extent k).end ≢ range.end = λ is. no_overlap k begins (omega arith) (omega (arith, fits.right.some)) in
      range_is new (after extent range units) k (range_at old extent k) refl end (more_other extent.ended range.more_fragments extent.reach range.end (range_at old extent k).end is_new.at_end is_new.before_end apart)

  pub kept-new : (n units : ℕ) → n ≡ length payload → units ≡ extent.units + units_at range → AreKept (put_mid range.start n bytes payload) new (after extent range units)
  kept-new n units len are_units =
      let t = kept.table in let right = fits.right in
      let last : HasCome new ((max extent.reach range.end - 1) / 8) = elim (cases_lt range.end extent.reach) [
        | inl l ↦ let e : max extent.reach range.end ≡ extent.reach = omega arith in rw e (come_stays ((extent.reach - 1) / 8) (t.reached (omega arith)))
        | inr l ↦ let e : max extent.reach range.end ≡ range.end = omega arith in rw e (grind (arith, unit ((range.end - 1) / 8), right.some))
      ] in
      let begun : (k : ℕ) → HasCome new k → (j : ℕ) × (j ≤ k) × Begins new j × (k < past new j) = λ k come. elim (unit k) [
        | inl own ↦ (range.start / 8, own.0, marked.begins, omega (arith, own.1, past_first))
        | inr o ↦ let (j, le, begins, below) = t.begun k (omega (arith, o.1)) in (j, le, stays j 1 begins (omega arith), omega (arith, past_other j begins))
      ] in
      let count = more_come old new (range.start / 8) (units_at range) marked.len (omega (arith, t.len, right)) (λ k. grind (arith, unit k)) in
      record {
        room = simp (length-append, length-take, length-drop) (omega (arith, kept.room, fits.len, right.limit));
        table = record {
          len = rw marked.len t.len;
          limit = omega (arith, t.limit, right.limit);
          marks = λ k. grind (arith, unit k, t.marks k);
          begun = begun;
          within = λ k come. elim (unit k) [ inl own ↦ omega (arith, own.1) | inr o ↦ let w = t.within k (omega (arith, o.1)) in omega arith ];
          reached = λ _. last;
          unit = λ e. let (a, b) = or_parts extent.ended (not range.more_fragments) e in
              let old_unit = t.unit a in let new_unit = right.more (not-false range.more_fragments b) in omega arith;
          ended = λ _. omega (arith, right.some);
          count = are_units ∙ omega (arith, t.count, count);
        };
      }

  -- what the memory holds, once the payload is written
  unchanged : (n k : ℕ) → n ≡ length payload → Begins old k → fragment_in (put_mid range.start n bytes payload) (range_at old extent k) ≡ held_at bytes old extent k
  unchanged n k len begins =
      let r : IpFragRange = range_at old extent k in
      let f : List ℕ → Fragment = λ b. record { start = r.start; more = r.more_fragments; bytes = b } in
      let room : range.end ≤ length bytes = omega (arith, kept.room, fits.right.limit) in
      ap f (elim (cases_lt r.start range.end) [
        | inl l ↦ let before : r.end ≤ range.start = grind (arith, no_overlap k begins l) in
            between_is (put_mid range.start n bytes payload) r.start r.end ∙ rw (take-put_mid_below range.start n bytes payload r.end before (omega arith)) (sym (between_is bytes r.start r.end))
        | inr l ↦ rw (drop-put_mid range.start n bytes payload r.start (omega (arith, fits.len)) (omega arith) (sym len))
      ])

  -- no fragment that is kept contradicts the new one
  no_conflict : (g : Fragment) → Contains (held bytes old extent) g → Conflict g (fragment_of range payload) → ⊥
  no_conflict g has c =
      let h = held_from_Contains bytes old extent g has in
      let end = end_at kept h.at h.begins in
      let len = fits.len in elim (rw (← h.is) at c) [
        | inl (other, (l, r)) ↦ no_overlap h.at h.begins (omega arith) (omega arith)
        | inr (inl (last, past)) ↦ let is_last = (last_is extent (range_at old extent h.at).end).0 last in let before = is_new.before_end is_last.0 in omega arith
        | inr (inr (last, past)) ↦ let at_end = is_new.at_end last in omega arith
      ]

  pub takes-new : (n units : ℕ) → n ≡ length payload → Takes (Some (held bytes old extent)) (fragment_of range payload) (Some (held (put_mid range.start n bytes payload) new (after extent range units)))
  takes-new n units len =
      let to : List ℕ = put_mid range.start n bytes payload in
      let last : Extent = after extent range units in
      let f : Fragment = fragment_of range payload in
      let own : held_at to new last (range.start / 8) ≡ f =
      ap (fragment_in to) (range_new units) ∙ rw (between-put_mid range.start n bytes payload range.end (omega (arith, kept.room, fits.right)) (omega (arith, fits.len))) in
      let other : (k : ℕ) → Begins old k → held_at to new last k ≡ held_at bytes old extent k = λ k b. ap (fragment_in to) (range_other units k b) ∙ unchanged n k len b in (
        no_conflict,
        λ g. (
          λ has. let h = held_from_Contains to new last g has in elim (unit h.at) [
            | inl o ↦ let e : h.at ≡ range.start / 8 = grind (arith, h.begins) in rw (← h.is, e, own) (Contains-push (held bytes old extent) f)
            | inr o ↦ let b : Begins old h.at = omega (arith, o.1, h.begins) in rw (← h.is, other h.at b) (Contains-append_left _ (f ∷ []) _ (Contains_from_held bytes old extent h.at b))
          ],
          λ has. elim (Contains-push_cases (held bytes old extent) f g has) [
            | inl o ↦ let h = held_from_Contains bytes old extent g o in rw (← h.is, ← other h.at h.begins) (Contains_from_held to new last h.at (stays h.at 1 h.begins (omega arith)))
            | inr e ↦ rw (← e, ← own) (Contains_from_held to new last (range.start / 8) marked.begins)
          ],
        ),
      )

module _ {bytes units : List ℕ} {extent : Extent} (are : AreKept bytes units extent) where
  abbrev Holds : Fragment → Type 0
  Holds = Contains (held bytes units extent)

  apart : (f g : Fragment) → Holds f → Holds g → Overlap f g → f ≡ g
  apart f g has_f has_g overlap =
      let a = held_from_Contains bytes units extent f has_f in let b = held_from_Contains bytes units extent g has_g in
      let (l, r) = rw (← a.is, ← b.is) at overlap in
      let end_a = end_at are a.at a.begins in let end_b = end_at are b.at b.begins in
      let same : a.at ≡ b.at = elim (cases_order a.at b.at) [
        | inl e ↦ e
        | inr (inl before) ↦ absurd (let done = in_order units a.at b.at b.begins before in omega arith)
        | inr (inr before) ↦ absurd (let done = in_order units b.at a.at a.begins before in omega arith)
      ] in cc

  -- none goes past the end that another tells
  none_past : (f g : Fragment) → Holds f → Holds g → GoesPast f g → ⊥
  none_past f g has_f has_g past =
      let a = held_from_Contains bytes units extent f has_f in let b = held_from_Contains bytes units extent g has_g in
      let (last, below) = rw (← a.is, ← b.is) at past in
      let is_last = (last_is extent (range_at units extent a.at).end).0 last in
      omega (arith, is_last.1, end_at are a.at a.begins, end_at are b.at b.begins, below)

  -- no two contradict each other
  none_contradicts : (f g : Fragment) → Holds f → Holds g → Conflict g f → ⊥
  none_contradicts f g has_f has_g (inl (other, overlap)) = other (apart g f has_g has_f overlap)
  none_contradicts f g has_f has_g (inr (inl past)) = none_past g f has_g has_f past
  none_contradicts f g has_f has_g (inr (inr past)) = none_past f g has_f has_g past

  -- a fragment that has come before
  pub takes_same : (f : Fragment) → Holds f → Takes (Some (held bytes units extent)) f (Some (held bytes units extent))
  takes_same f has = (
    λ g has_g. none_contradicts f g has has_g,
    λ g. (Contains-append_left _ (f ∷ []) g, λ h. elim (Contains-push_cases _ f g h) [ inl a ↦ a | inr e ↦ rw e at has ]),
  )

  -- each byte has come, by what a contract sees
  pub whole_view : (discarded : Bool) (value : Option (List Fragment)) → kept discarded bytes units extent ≡ value → discarded ≡ false → extent.ended ≡ true → (extent.reach + 7) / 8 ≤ extent.units → IsWhole value (take extent.reach bytes)
  whole_view discarded value view alive ended full =
      let len = length-take-le extent.reach bytes (omega (arith, are.room, are.table.limit)) in rw (← view, alive) (record {
        some = omega (arith, are.table.ended ended);
        pieces = λ f has.
            let h = held_from_Contains bytes units extent f has in
            let end = end_at are h.at h.begins in
            let last = last_is extent (range_at units extent h.at).end in
            let piece : IsPieceOf (take extent.reach bytes) (held_at bytes units extent h.at) = record {
              within = omega arith;
              bytes = rw end (between_is bytes _ _ ∙ (ap (drop (8 * h.at)) (sym (take-take (range_at units extent h.at).end extent.reach bytes (omega arith))) ∙ sym (between_is (take extent.reach bytes) _ _)));
              last = (λ m. omega (arith, last.0 m), λ i. last.1 (ended, omega arith));
            } in rw h.is at piece;
        covered = λ i below.
            let some : HasCome units (i / 8) = grind (arith, are.table.count, fewer units ((extent.reach + 7) / 8) (i / 8) (λ k past. grind (arith, are.table.within k)) (omega arith)) in
            let (k, from, begins, to) = are.table.begun (i / 8) some in
            (held_at bytes units extent k, Contains_from_held bytes units extent k begins, (omega arith, omega (arith, end_at are k begins)));
        apart = apart;
      })

  pub only_view : (discarded : Bool) (value : Option (List Fragment)) → kept discarded bytes units extent ≡ value → discarded ≡ false → extent.ended ≡ true → (extent.reach + 7) / 8 ≤ extent.units → (datagram : List ℕ) → IsWhole value datagram
      → take extent.reach bytes ≡ datagram
  only_view discarded value view alive ended full datagram cut =
      one_cut (held bytes units extent) (take extent.reach bytes) datagram (whole_view false (Some (held bytes units extent)) refl refl ended full) (rw (← view, alive) at cut)

  -- the end has not come, or a byte before it
  pub not_whole : (extent.ended ≡ false) ⊎ (extent.units < (extent.reach + 7) / 8) → (datagram : List ℕ) → ¬ AreCutFrom datagram (held bytes units extent)
  not_whole (inl not_ended) datagram cut =
      let (f, has, cover) = cut.covered (length datagram - 1) (omega (arith, cut.some)) in
      let h = held_from_Contains bytes units extent f has in
      let last = (last_is extent (range_at units extent h.at).end).0 (ap (λ x. x.more) h.is ∙ (cut.pieces f has).last.1 (omega (arith, (cut.pieces f has).within))) in cc
  not_whole (inr gap) datagram cut =
      let each : (k : ℕ) → k < (extent.reach + 7) / 8 → HasCome units k = λ k below.
      let (j, begins, is) = furthest are (omega arith) in
      let within = (cut.pieces (held_at bytes units extent j) (Contains_from_held bytes units extent j begins)).within in
      let (f, has, cover) = cut.covered (8 * k) (omega (arith, end_at are j begins)) in
      let h = held_from_Contains bytes units extent f has in
      let covers : Covers (held_at bytes units extent h.at) (8 * k) = rw (← h.is) at cover in
      come units h.at k h.begins (omega arith) (omega (arith, end_at are h.at h.begins)) in
      omega (arith, are.table.count, many_come units ((extent.reach + 7) / 8) each)

pub not_whole_view : (bytes units : List ℕ) (extent : Extent) (discarded : Bool) (value : Option (List Fragment)) → kept discarded bytes units extent ≡ value → discarded ≡ false → AreKept bytes units extent
    → (extent.ended ≡ false) ⊎ (extent.units < (extent.reach + 7) / 8) → (datagram : List ℕ) → ¬ IsWhole value datagram
not_whole_view bytes units extent discarded value view alive are missing = rw (← view, alive) (not_whole are missing)
