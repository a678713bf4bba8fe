use Rattle.std.proofs.Common.{ℕ, ◌≡◌, ◌/◌, arith, slice_index}
use Rattle.packet_reassembly.proofs.TableLaws.{Contains_from_held, all_new, conflict_at, conflict_past, same_parts}
use Rattle.packet_reassembly.proofs.table.arrival_of.Goals.{else-is_range-via-then-is_range+else-holds, else-is_range-via-else-is_range}
use Rattle.packet_reassembly.proofs.table.arrival_of.Goals as goal

pub returns-then-goes_past-clause-arrives : goal.returns-then-goes_past-clause-arrives
returns-then-goes_past-clause-arrives c = conflict_past c.requires.kept c.requires.fits (c.goes_past.ensures.past c.if-goes_past.true)

pub returns-then-begins_inside-clause-arrives : goal.returns-then-begins_inside-clause-arrives
returns-then-begins_inside-clause-arrives c =
    let (k, (from, to), begins) = c.begins_inside.ensures.some c.if-begins_inside.true in
    conflict_at c.requires.kept c.requires.fits k k begins (omega arith) (omega arith) (omega arith) to (λ e _. omega arith)

pub returns-then-found-eq-EMPTY-clause-arrives :
    goal.returns-then-found-eq-EMPTY-clause-arrives
returns-then-found-eq-EMPTY-clause-arrives c =
    all_new c.requires.kept.table c.requires.fits.right c.if-found-eq-EMPTY.true (c.begins_inside.ensures.none c.if-begins_inside.false) (c.goes_past.ensures.before_end c.if-goes_past.false) (c.goes_past.ensures.at_end c.if-goes_past.false)

pub returns-then-found-eq-GOES_ON-clause-arrives :
    goal.returns-then-found-eq-GOES_ON-clause-arrives
returns-then-found-eq-GOES_ON-clause-arrives c =
    let (k, le, begins, below) = c.requires.kept.table.begun (c.args.range.start / 8) (omega arith) in
    conflict_at c.requires.kept c.requires.fits k (c.args.range.start / 8) begins le below (omega arith) (omega (arith, c.requires.fits.right)) (λ own _. omega (arith, rw own at begins))

pub returns-then-holds-clause-arrives : goal.returns-then-holds-clause-arrives
returns-then-holds-clause-arrives c =
    let begins : slice_index c.args.units.now (c.args.range.start / 8) ≡ 1 = omega (arith, c.requires.kept.table.marks (c.args.range.start / 8)) in
    rw (← (c.holds.ensures.same.0 c.if-holds.true), ← (c.is_range.ensures.same.0 c.if-is_range.true))
    (Contains_from_held c.args.bytes.now c.args.units.now c.args.extent (c.args.range.start / 8) begins)

pub returns-else-is_range-clause-arrives : goal.returns-else-is_range-clause-arrives
returns-else-is_range-clause-arrives c =
    let first : ℕ = c.args.range.start / 8 in
    let begins : slice_index c.args.units.now first ≡ 1 = omega (arith, c.requires.kept.table.marks first) in
    conflict_at c.requires.kept c.requires.fits first first begins (omega arith) (omega arith) (omega arith) (omega (arith, c.requires.fits.right)) (λ _ is.
    let (e, same) = same_parts c.requires.kept c.requires.fits first begins is in
    elim c.else-is_range.branch [
      | else-is_range-via-then-is_range+else-holds w ↦ let t = w.holds.ensures.same.1 same in let f = w.if-holds.false in cc
      | else-is_range-via-else-is_range w ↦ let t = c.is_range.ensures.same.1 e in let f = w.if-is_range.false in cc
    ])
