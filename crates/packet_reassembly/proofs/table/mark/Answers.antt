use Rattle.std.proofs.Common.{ℕ, ◌≡◌, ◌+◌, ◌-◌, ◌/◌, ◌<◌, ◌≤◌, ◌⊎◌, ◌∙◌, List, arith, get_or, inl, inr, length, length-drop, length-take, refl, rules, set}
use Rattle.std.proofs.lemmas.List.{get_or-set_other, get_or-set_same, length-set, places}
use Rattle.packet_reassembly.specs.Table.{IsMarked, IsRange, units_at, units_to}
use Rattle.packet_reassembly.specs.declared.ip_frag_range.IpFragRange.{IpFragRange}
use borrow.Rule.Slice.PartMut.{put_mid}
use Rattle.packet_reassembly.proofs.table.mark.Goals as goal

-- what a list has once a part of it is written
module _ (a k : ℕ) (xs ys : List ℕ) (room : a + k ≤ length xs) (len : length ys ≡ k) where
  put_len : length (put_mid a k xs ys) ≡ length xs
  put_len = search (rules, places)

  put_in : (i : ℕ) → a ≤ i → i < a + k → get_or (put_mid a k xs ys) i 0 ≡ get_or ys (i - a) 0
  put_in i from to = search (rules, places)

  put_out : (i : ℕ) → (i < a) ⊎ (a + k ≤ i) → get_or (put_mid a k xs ys) i 0 ≡ get_or xs i 0
  put_out i (inl l) = search (rules, places)
  put_out i (inr l) = search (rules, places)

-- a range is filled, and then its first unit is set
is_marked : (units mid : List ℕ) (range : IpFragRange) (n : ℕ) → IsRange range → units_to range ≤ length units → n ≡ units_at range → length mid ≡ n
    → ((k : ℕ) → k < n → get_or mid k 0 ≡ 2) → IsMarked units range (set (put_mid (range.start / 8) n units mid) (range.start / 8) 1)
is_marked units mid range n is within count len filled =
    let a : ℕ = range.start / 8 in
    let put : List ℕ = put_mid a n units mid in
    let some : a < units_to range = omega (arith, is.some, is.unit) in
    let room : a + n ≤ length units = omega arith in
    let all = put_len a n units mid room len in
    record {
      len = length-set put a 1 ∙ all;
      begins = get_or-set_same put a 1 0 (omega arith);
      inside = λ k i. get_or-set_other put a k 1 0 (omega (arith, i.0)) ∙ (put_in a n units mid room len k (omega (arith, i.0)) (omega (arith, i.1)) ∙ filled (k - a) (omega (arith, i.0, i.1)));
      outside = λ k o. elim o [
        | inl l ↦ get_or-set_other put a k 1 0 (omega arith) ∙ put_out a n units mid room len k (inl l)
        | inr l ↦ get_or-set_other put a k 1 0 (omega arith) ∙ put_out a n units mid room len k (inr (omega arith))
      ];
    }

pub returns-clause-marked : goal.returns-clause-marked
returns-clause-marked c =
    let range = c.args.range in
    let right = c.requires.range in
    let n : ℕ = c.div_ceil-after.result - range.start / 8 in
    let within : units_to range ≤ length c.args.units.now = omega (arith, right.limit, c.requires.table) in
    let count : n ≡ units_at range = omega (arith, c.div_ceil-after.ensures) in
    let len : length c.fill.new.self ≡ n = c.fill.ensures.len ∙ simp (length-take, length-drop) (omega (arith, right.some)) in
    is_marked c.args.units.now c.fill.new.self range n right within count len (λ k below. c.fill.ensures.clones k 0 (rw (← c.fill.ensures.len, len) below) refl)
