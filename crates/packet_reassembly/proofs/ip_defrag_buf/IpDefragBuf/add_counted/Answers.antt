use Rattle.std.proofs.Common.{ℕ, ◌≡◌, ◌+◌, ◌*◌, ◌/◌, ◌≤◌, List, ap, arith, length, sym}
use Rattle.std.proofs.lemmas.Option.{none-some, same_Some}
use Rattle.packet_reassembly.specs.declared.ip_frag_range.IpFragRange.{IpFragRange}
use Rattle.packet_reassembly.specs.Table.{Fits, fragment_of, held, units_at}
use Rattle.packet_reassembly.proofs.TableLaws.{new_not_held, takes_same}
use Rattle.packet_reassembly.proofs.ip_defrag_buf.IpDefragBuf.add_counted.Goals as goal

module _ {range : IpFragRange} {payload : List ℕ} (fits : Fits range payload) where
  -- the entries that a new fragment takes, one that has come already and any other
  new_entries : {n m : ℕ} → n ≡ units_at range → m ≡ units_at range + 1 → (n + m ≡ 2 * ((length payload + 7) / 8) + 1) × (n + m ≤ 2 * ((length payload + 7) / 8) + 1)
  new_entries n m = let right = fits.right in (omega arith, omega arith)

  same_entries : {n : ℕ} → n ≡ units_at range + 2 → n ≡ (length payload + 7) / 8 + 2
  same_entries n = let right = fits.right in omega arith

  few_entries : {n : ℕ} → n ≤ units_at range + 2 → (n ≤ (length payload + 7) / 8 + 2) × (n ≤ 2 * ((length payload + 7) / 8) + 1)
  few_entries n = let right = fits.right in (omega arith, omega arith)

pub invariant_of-self : goal.invariant_of-self
invariant_of-self c = c.keep-written.ensures.kept

pub returns-in-New-clause-taken : goal.returns-in-New-clause-taken
returns-in-New-clause-taken c =
    rw (← c.self.view_is, c.if-self.false, ← ap (λ f. f.start) c.in-Ok.ensures.same, ← ap (λ f. f.more) c.in-Ok.ensures.same) c.keep-written.ensures.takes

pub returns-in-Same-clause-taken : goal.returns-in-Same-clause-taken
returns-in-Same-clause-taken c =
    rw (← c.self.view_is, c.if-self.false, ← ap (λ f. f.start) c.in-Ok.ensures.same, ← ap (λ f. f.more) c.in-Ok.ensures.same)
    (takes_same c.self.invariant (fragment_of c.in-Ok.range c.args.payload.now) (rw c.in-Same.is at c.arrival_of-arrival.ensures.arrives))

pub returns-in-New-clause-entries_of_duplicate : goal.returns-in-New-clause-entries_of_duplicate
returns-in-New-clause-entries_of_duplicate c = λ old new was _ has.
    let own = c.self.inside in
    let is_new = rw c.in-New.is at c.arrival_of-arrival.ensures.arrives in
    let kept = rw (← c.self.view_is, c.if-self.false) at was in
    let all : held own.bytes.now own.units.now own.extent ≡ old = same_Some _ _ kept in
    absurd (new_not_held own.bytes.now own.units.now c.args.payload.now own.extent c.in-Ok.range c.in-Ok.ensures.range.right is_new (rw (c.in-Ok.ensures.same, all) has))

pub returns-in-New-clause-entries : goal.returns-in-New-clause-entries
returns-in-New-clause-entries c = λ _ _ _ _ _. (new_entries c.in-Ok.ensures.range (c.arrival_of-arrival.ensures.all c.in-New.is) c.keep-written.ensures.all).0

pub returns-in-New-clause-entries_of_conflict : goal.returns-in-New-clause-entries_of_conflict
returns-in-New-clause-entries_of_conflict c = λ none. let is_some = rw c.if-self.false at none in absurd (none-some _ (sym is_some))

pub returns-in-New-clause-no_entries_once_discarded : goal.returns-in-New-clause-no_entries_once_discarded
returns-in-New-clause-no_entries_once_discarded c = λ none. let is_some = rw (← c.self.view_is, c.if-self.false) at none in absurd (none-some _ (sym is_some))

pub returns-in-New-clause-few_entries : goal.returns-in-New-clause-few_entries
returns-in-New-clause-few_entries c =
    (new_entries c.in-Ok.ensures.range (c.arrival_of-arrival.ensures.all c.in-New.is) c.keep-written.ensures.all).1

pub returns-in-Same-clause-entries : goal.returns-in-Same-clause-entries
returns-in-Same-clause-entries c = λ old new was _ without.
    let own = c.self.inside in
    let has = rw c.in-Same.is at c.arrival_of-arrival.ensures.arrives in
    let kept = rw (← c.self.view_is, c.if-self.false) at was in
    let all : held own.bytes.now own.units.now own.extent ≡ old = same_Some _ _ kept in
    absurd (without (rw (c.in-Ok.ensures.same, all) at has))

pub returns-in-Same-clause-entries_of_duplicate : goal.returns-in-Same-clause-entries_of_duplicate
returns-in-Same-clause-entries_of_duplicate c = λ _ _ _ _ _. same_entries c.in-Ok.ensures.range (c.arrival_of-arrival.ensures.same c.in-Same.is)

pub returns-in-Same-clause-entries_of_conflict : goal.returns-in-Same-clause-entries_of_conflict
returns-in-Same-clause-entries_of_conflict c = λ none. let is_some = rw c.if-self.false at none in absurd (none-some _ (sym is_some))

pub returns-in-Same-clause-no_entries_once_discarded : goal.returns-in-Same-clause-no_entries_once_discarded
returns-in-Same-clause-no_entries_once_discarded c = λ none. let is_some = rw (← c.self.view_is, c.if-self.false) at none in absurd (none-some _ (sym is_some))

pub returns-in-Same-clause-few_entries : goal.returns-in-Same-clause-few_entries
returns-in-Same-clause-few_entries c = (few_entries c.in-Ok.ensures.range c.arrival_of-arrival.ensures.few).1

pub returns-in-Conflict-clause-taken : goal.returns-in-Conflict-clause-taken
returns-in-Conflict-clause-taken c =
    rw (← c.self.view_is, c.if-self.false, ← ap (λ f. f.start) c.in-Ok.ensures.same, ← ap (λ f. f.more) c.in-Ok.ensures.same) (rw c.in-Conflict.is at c.arrival_of-arrival.ensures.arrives)

pub returns-in-Conflict-clause-entries : goal.returns-in-Conflict-clause-entries
returns-in-Conflict-clause-entries c = λ _ _ _ none _. absurd (none-some _ none)

pub returns-in-Conflict-clause-entries_of_duplicate : goal.returns-in-Conflict-clause-entries_of_duplicate
returns-in-Conflict-clause-entries_of_duplicate c = λ _ _ _ none _. absurd (none-some _ none)

pub returns-in-Conflict-clause-entries_of_conflict : goal.returns-in-Conflict-clause-entries_of_conflict
returns-in-Conflict-clause-entries_of_conflict c = λ _. (few_entries c.in-Ok.ensures.range c.arrival_of-arrival.ensures.few).0

pub returns-in-Conflict-clause-no_entries_once_discarded : goal.returns-in-Conflict-clause-no_entries_once_discarded
returns-in-Conflict-clause-no_entries_once_discarded c = λ none. let is_some = rw (← c.self.view_is, c.if-self.false) at none in absurd (none-some _ (sym is_some))

pub returns-in-Conflict-clause-few_entries : goal.returns-in-Conflict-clause-few_entries
returns-in-Conflict-clause-few_entries c = (few_entries c.in-Ok.ensures.range c.arrival_of-arrival.ensures.few).1
