use Rattle.std.proofs.Common.{ℕ, Bool, Option, ◌≡◌, ◌∷◌, ◌+◌, sym, ◌∙◌, ◌<◌, ◌≤◌, ◌-◌, List, [], ◌++◌, length, take, drop, min, arith, ap, append-nil, append_assoc, length-append, length-drop, length-take-le, refl, subst, take-append-drop}
use Rattle.std.proofs.lemmas.List.{drop-append-le, drop-drop, nil_from_length}
use Rattle.std.proofs.lemmas.Result.{err_from_is_err_and}
use Rattle.ipcap.specs.Private.Progress.{Because, Lacks, last_four}
use Rattle.ipcap.specs.Streams.{Prints, Takes, kept_if, unread}
use Rattle.ipcap.specs.declared.failure.Failure.{Failure}
use Rattle.ipcap.specs.declared.input.Input.{Input}
use Rattle.ipcap.specs.declared.output.Output.{Output}
use Rattle.ipcap.proofs.Runs.{kept_both, kept_nothing, prints_both, prints_nothing, prints_then, takes_both, takes_nothing, takes_then}
use Rattle.ipcap.proofs.listing.skip.Goals as goal

-- nothing is left if less was read than is left to skip
passed_all : (r u v : List ℕ) (left k : ℕ) → r ≡ u → k ≡ min (length r) left → v ≡ drop k u → 0 < left - k → v ≡ []
passed_all r u v left k same least e more = nil_from_length v (omega (arith, least, ap length same, ap length e, length-drop k u, more))

-- how many are taken then
many_more : (len left k : ℕ) (r s u : List ℕ) → length s ≡ len - left → left ≤ len → r ≡ u → k ≡ min (length r) left → length (s ++ take k u) ≡ len - (left - k)
many_more len left k r s u many within same least =
    let few : k ≤ length u = omega (arith, least, ap length same) in
    omega (arith, many, within, least, length-append s (take k u), length-take-le k u few)

parts : (a s u : List ℕ) (k : ℕ) → a ≡ s ++ u → a ≡ (s ++ take k u) ++ drop k u
parts a s u k e = let p = take-append-drop k u in grind (arith, append_assoc)

-- the last four then
last_then : (s t four five : List ℕ) → four ≡ last_four s → five ≡ drop (length t) (four ++ t) → five ≡ last_four (s ++ t)
last_then s t four five e f =
    let zeros : List ℕ = 0 ∷ 0 ∷ 0 ∷ 0 ∷ [] in
    let split : drop (length s) (zeros ++ s) ++ t ≡ drop (length s) (zeros ++ (s ++ t)) = sym (drop-append-le (length s) (zeros ++ s) t (omega (arith, length-append zeros s))) ∙ ap (drop (length s)) (append_assoc zeros s t) in
    let sum : length s + length t ≡ length (s ++ t) = sym (length-append s t) in
    let both : drop (length t) (drop (length s) (zeros ++ (s ++ t))) ≡ drop (length (s ++ t)) (zeros ++ (s ++ t)) = drop-drop (length t) (length s) (zeros ++ (s ++ t)) ∙ ap (λ n. drop n (zeros ++ (s ++ t))) sum in
    f ∙ (ap (λ x. drop (length t) (x ++ t)) e ∙ (ap (drop (length t)) split ∙ both))

-- what is there where a call fails after all that was read is taken
lacks_all : {R W : Type 0} (remaining : R → Option (List ℕ)) (contents : W → Option (List ℕ)) (read_failed write_failed : Type 0) (keeps : Bool) (wanted : ℕ) (e : Failure)
    (old new : Input R) (old_output new_output : Output W) (taken : List ℕ) → Takes remaining old new taken → unread new ≡ [] → length taken ≤ wanted
    → Prints contents old_output new_output (kept_if keeps taken) → Because read_failed write_failed ⊥ e (length (taken ++ []) < wanted) [] []
    → Lacks remaining contents read_failed write_failed keeps wanted e old new old_output new_output
lacks_all remaining contents read_failed write_failed keeps wanted e old new old_output new_output taken takes empty within prints cause = record {
  got = takes.got;
  reads = takes.reads;
  first = taken;
  piece = [];
  rest = [];
  whole = grind (arith, append-nil, takes.takes, empty);
  within = omega (arith, within, ap length (append-nil taken));
  all = λ few. refl;
  prints = prints;
  cause = cause;
}

pub turns-init : goal.turns-init
turns-init g c = record { within = omega arith; taken = []; takes = takes_nothing _ _; many = omega arith; last = refl; prints = rw (kept_nothing c.args.keeps) (prints_nothing _ _); unfailed = λ x. x; goes_on = c.requires.reads_on; unfailed_writes = λ x. x }

pub turns-preserved : goal.turns-preserved
turns-preserved g c =
    let was = c.turns.invariant in
    record {
      within = omega (arith, was.within);
      taken = was.taken ++ take c.min-passed.result (unread c.turns.input);
      takes = takes_then _ _ _ _ _ (takes_both _ _ _ _ _ _ was.takes c.pass.ensures.takes) c.in_ok-fill.ensures.takes;
      many = many_more c.args.len c.turns.left _ c.unread-bytes.result.now was.taken (unread c.turns.input) was.many was.within c.unread-bytes.ensures.value c.min-passed.ensures;
      last = last_then was.taken (take c.min-passed.result (unread c.turns.input)) c.turns.last _ was.last (rw c.unread-bytes.ensures.value at c.last_four-last.ensures.value);
      prints = rw (kept_both c.args.keeps was.taken (take c.min-passed.result (unread c.turns.input)))
          (prints_then _ _ _ _ _ (prints_both _ _ _ _ _ _ was.prints (rw c.unread-bytes.ensures.value at c.in_ok-copy_if.ensures.prints)) c.in_ok-hand_over.ensures.kept);
      unfailed = λ x. was.unfailed (subst g.R.Source.has_failed c.pass.ensures.source (c.in_ok-fill.ensures.unfailed x));
      goes_on = grind arith;
      unfailed_writes = λ x. was.unfailed_writes (c.in_ok-copy_if.ensures.unfailed_writes (c.in_ok-hand_over.ensures.unfailed_writes x));
    }

pub returns-then-left-eq0-clause-skips : goal.returns-then-left-eq0-clause-skips
returns-then-left-eq0-clause-skips g c =
    let was = c.turns.invariant in
    let many = many_more c.args.len c.turns.left _ c.unread-bytes.result.now was.taken (unread c.turns.input) was.many was.within c.unread-bytes.ensures.value c.min-passed.ensures in
    record {
      taken = was.taken ++ take c.min-passed.result (unread c.turns.input);
      takes = takes_both _ _ _ _ _ _ was.takes c.pass.ensures.takes;
      many = omega (arith, many, c.if-left-eq0.true);
      within = omega arith;
      all = λ few. absurd (omega (arith, few));
      is_last = last_then was.taken (take c.min-passed.result (unread c.turns.input)) c.turns.last _ was.last (rw c.unread-bytes.ensures.value at c.last_four-last.ensures.value);
      prints = rw (kept_both c.args.keeps was.taken (take c.min-passed.result (unread c.turns.input))) (prints_both _ _ _ _ _ _ was.prints (rw c.unread-bytes.ensures.value at c.in_ok-copy_if.ensures.prints));
    }

pub returns-in_err-copy_if-clause-lacks : goal.returns-in_err-copy_if-clause-lacks
returns-in_err-copy_if-clause-lacks g c =
    let was = c.turns.invariant in
    let many = many_more c.args.len c.turns.left _ c.unread-bytes.result.now was.taken (unread c.turns.input) was.many was.within c.unread-bytes.ensures.value c.min-passed.ensures in
    let failed = c.in_err-copy_if.ensures in
    let p = err_from_is_err_and c.from_residual.result c.from_residual.ensures.1 in
    rw (p.1, p.2, failed.failed.0) (record {
      got = was.takes.got;
      reads = was.takes.reads;
      first = was.taken;
      piece = take c.min-passed.result (unread c.turns.input);
      rest = drop c.min-passed.result (unread c.turns.input);
      whole = parts _ was.taken (unread c.turns.input) c.min-passed.result was.takes.takes;
      within = omega (arith, many, was.within);
      all = λ few. passed_all c.unread-bytes.result.now (unread c.turns.input) (drop c.min-passed.result (unread c.turns.input)) c.turns.left c.min-passed.result c.unread-bytes.ensures.value c.min-passed.ensures refl (omega (arith, few, many));
      prints = prints_then _ _ _ _ _ was.prints failed.kept;
      cause = failed.failed.1;
    })

pub returns-in_err-hand_over-clause-lacks : goal.returns-in_err-hand_over-clause-lacks
returns-in_err-hand_over-clause-lacks g c =
    let was = c.turns.invariant in
    let some = take c.min-passed.result (unread c.turns.input) in
    let many = many_more c.args.len c.turns.left _ c.unread-bytes.result.now was.taken (unread c.turns.input) was.many was.within c.unread-bytes.ensures.value c.min-passed.ensures in
    let over = passed_all c.unread-bytes.result.now (unread c.turns.input) (unread c.pass.new.self) c.turns.left _ c.unread-bytes.ensures.value c.min-passed.ensures c.pass.ensures.rest (omega (arith, c.if-left-eq0.false)) in
    let takes = takes_both _ _ _ _ _ _ was.takes c.pass.ensures.takes in
    let prints = prints_both _ _ _ _ _ _ was.prints (rw c.unread-bytes.ensures.value at c.in_ok-copy_if.ensures.prints) in
    let failed = c.in_err-hand_over.ensures in
    let p = err_from_is_err_and c.from_residual-in_err-hand_over.result c.from_residual-in_err-hand_over.ensures.1 in
    rw (p.1, p.2, failed.failed.0) (lacks_all _ _ _ _ c.args.keeps c.args.len _ _ _ _ _ (was.taken ++ some) takes over (omega (arith, many, was.within))
    (rw (kept_both c.args.keeps was.taken some) (prints_then _ _ _ _ _ prints failed.kept)) failed.failed.1)

pub returns-in_err-fill-clause-lacks : goal.returns-in_err-fill-clause-lacks
returns-in_err-fill-clause-lacks g c =
    let was = c.turns.invariant in
    let some = take c.min-passed.result (unread c.turns.input) in
    let many = many_more c.args.len c.turns.left _ c.unread-bytes.result.now was.taken (unread c.turns.input) was.many was.within c.unread-bytes.ensures.value c.min-passed.ensures in
    let over = passed_all c.unread-bytes.result.now (unread c.turns.input) (unread c.pass.new.self) c.turns.left _ c.unread-bytes.ensures.value c.min-passed.ensures c.pass.ensures.rest (omega (arith, c.if-left-eq0.false)) in
    let failed = c.in_err-fill.ensures in
    let takes = takes_then _ _ _ _ _ (takes_both _ _ _ _ _ _ was.takes c.pass.ensures.takes) failed.takes in
    let prints = prints_both _ _ _ _ _ _ was.prints (rw c.unread-bytes.ensures.value at c.in_ok-copy_if.ensures.prints) in
    let p = err_from_is_err_and c.from_residual-in_err-fill.result c.from_residual-in_err-fill.ensures.1 in
    rw (p.1, p.2, failed.failed.0) (lacks_all _ _ _ _ c.args.keeps c.args.len _ _ _ _ _ (was.taken ++ some) takes (failed.unread ∙ over) (omega (arith, many, was.within))
    (rw (kept_both c.args.keeps was.taken some) (prints_then _ _ _ _ _ prints c.in_ok-hand_over.ensures.kept))
    (omega (arith, ap length (append-nil (was.taken ++ some)), many, was.within, c.if-left-eq0.false), refl, refl, failed.failed.1))

pub returns-then-not-branch-clause-skips : goal.returns-then-not-branch-clause-skips
returns-then-not-branch-clause-skips g c =
    let was = c.turns.invariant in
    let many = many_more c.args.len c.turns.left _ c.unread-bytes.result.now was.taken (unread c.turns.input) was.many was.within c.unread-bytes.ensures.value c.min-passed.ensures in
    let over = passed_all c.unread-bytes.result.now (unread c.turns.input) (unread c.pass.new.self) c.turns.left _ c.unread-bytes.ensures.value c.min-passed.ensures c.pass.ensures.rest (omega (arith, c.if-left-eq0.false)) in
    record {
      taken = was.taken ++ take c.min-passed.result (unread c.turns.input);
      takes = takes_then _ _ _ _ _ (takes_both _ _ _ _ _ _ was.takes c.pass.ensures.takes) c.in_ok-fill.ensures.takes;
      many = many;
      within = omega arith;
      all = λ few. grind (arith, over, c.in_ok-fill.ensures.same);
      is_last = last_then was.taken (take c.min-passed.result (unread c.turns.input)) c.turns.last _ was.last (rw c.unread-bytes.ensures.value at c.last_four-last.ensures.value);
      prints = rw (kept_both c.args.keeps was.taken (take c.min-passed.result (unread c.turns.input)))
          (prints_then _ _ _ _ _ (prints_both _ _ _ _ _ _ was.prints (rw c.unread-bytes.ensures.value at c.in_ok-copy_if.ensures.prints)) c.in_ok-hand_over.ensures.kept);
    }
