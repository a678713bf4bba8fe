use Rattle.std.proofs.Common.{ℕ, ◌≡◌, ◌≤◌, ◌∙◌, List, arith, length, refl, sym}
use Rattle.std.proofs.lemmas.Bool.{false≢true, not-false}
use Rattle.std.proofs.lemmas.Bool.Decides.{Decides-eqb, nat_tests}
use Rattle.std.proofs.lemmas.Result.{IfErr-at_err}
use Rattle.etherparse.specs.ExtensionHeaderChain.{required_len_of}
use Rattle.packet_parts.proofs.FragmentHeaders.{as_skipped}
use Rattle.packet_parts.specs.Extensions.{after_fragment}
use Rattle.packet_parts.proofs.extensions.passed.Goals as goal

has_8 : (s : List ℕ) → required_len_of 44 s ≤ length s → 8 ≤ length s
has_8 s h = grind (arith, nat_tests)

pub returns-clause-goes_on : goal.returns-clause-goes_on
returns-clause-goes_on c = λ s first decided p first_one.
    let begins = c.in-Ok-from_slice.ensures.reads in
    let is_fragment = (Decides-eqb _ 44).0 (not-false _ (sym c.ne.ensures ∙ c.if-ne.false)) in
    let skipped = c.in-Ok.ensures.skipped c.requires.skippable ((c.in-Ok.ensures.accepted c.requires.skippable).0 refl) in
    let same = as_skipped _ _ _ _ _ _ is_fragment begins skipped in
    rw (same.0, same.1, c.deciding.ensures.value) (after_fragment (rw is_fragment at p) begins (grind (arith, nat_tests, first_one, c.value-is_later.ensures.value)))

pub returns-clause-ends : goal.returns-clause-ends
returns-clause-ends c = λ s first decided p later.
    let begins = c.in-Ok-from_slice.ensures.reads in
    let is_fragment = (Decides-eqb _ 44).0 (not-false _ (sym c.ne.ensures ∙ c.if-ne.false)) in
    let skipped = c.in-Ok.ensures.skipped c.requires.skippable ((c.in-Ok.ensures.accepted c.requires.skippable).0 refl) in
    let same = as_skipped _ _ _ _ _ _ is_fragment begins skipped in
    record {
      before = decided;
      at = c.args.slice.now;
      last = c.in-Ok-from_slice.header;
      passes = rw is_fragment at p;
      begins = rw same.1 begins;
      later = grind (arith, nat_tests, later, c.value-is_later.ensures.value);
      decides = rw c.deciding.ensures.value refl;
      named = same.0;
    }

pub returns-in-Err-clause-short : goal.returns-in-Err-clause-short
returns-in-Err-clause-short c =
    let cut : required_len_of c.args.number c.args.slice.now ≤ length c.args.slice.now → ⊥ = λ h. false≢true ((c.in-Err.ensures.accepted c.requires.skippable).1 h) in
    omega (arith, cut)

pub returns-in-Err-clause-error : goal.returns-in-Err-clause-error
returns-in-Err-clause-error c =
    IfErr-at_err (λ e. c.in-Err.e ≡ e) (c.in-Err.ensures.refused c.requires.skippable (returns-in-Err-clause-short c)) refl

pub unreachable-unreachable : goal.unreachable-unreachable
unreachable-unreachable c =
    let is_fragment = (Decides-eqb _ 44).0 (not-false _ (sym c.ne.ensures ∙ c.if-ne.false)) in
    let enough = has_8 _ (rw is_fragment at ((c.in-Ok.ensures.accepted c.requires.skippable).0 refl)) in
    omega (arith, enough, c.in-Err-from_slice.ensures.reads.short)
