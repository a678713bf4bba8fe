use Rattle.std.proofs.Common.{[], subst}
use Rattle.std.proofs.lemmas.Result.{err_from_is_err_and}
use Rattle.ipcap.proofs.Runs.{breaks_then, front_breaks, takes_both, takes_nothing, tells_both, tells_nothing, turns_then}
use Rattle.ipcap.specs.declared.listing.Turn.TheVariants as turn
use Rattle.ipcap.proofs.request.Request.list.Goals as goal

pub turns-init : goal.turns-init
turns-init g c = record { taken = []; takes = takes_nothing _ _; tells = tells_nothing _ _ _ _; unfailed = λ x. x; goes_on = c.requires.reads_on; unfailed_writes = λ x. x }

pub turns-preserved : goal.turns-preserved
turns-preserved g c =
    let was = c.turns.invariant in
    let takes = takes_both _ _ _ _ _ _ was.takes (rw c.unread-bytes.ensures.value at c.pass.ensures.takes) in
    let tells = tells_both _ _ _ _ _ _ _ _ _ _ was.tells (rw c.unread-bytes.ensures.value at c.in_ok-rest.ensures.told) in
    let k = rw c.in_default.is at c.in_ok-end.ensures.turns in
    record {
      taken = _;
      takes = takes_both _ _ _ _ _ _ takes k.takes;
      tells = tells_both _ _ _ _ _ _ _ _ _ _ tells k.tells;
      unfailed = λ x. was.unfailed (subst g.R.Source.has_failed c.pass.ensures.source (c.in_ok-end.ensures.unfailed x));
      goes_on = c.in_ok-end.ensures.goes_on c.in_default.is;
      unfailed_writes = λ x. was.unfailed_writes (c.in_ok-rest.ensures.unfailed_writes (c.in_ok-end.ensures.unfailed_writes x));
    }

pub returns-in_err-rest-clause-failed : goal.returns-in_err-rest-clause-failed
returns-in_err-rest-clause-failed g c =
    let was = c.turns.invariant in
    let p = err_from_is_err_and c.from_residual.result c.from_residual.ensures.1 in
    rw (p.1, p.2) (breaks_then _ _ _ _ _ _ _ _ _ _ _ _ _ _ _ was.takes was.tells (front_breaks _ _ _ g.R.Source.has_failed g.W.Sink.has_failed _ _ _ _ _ (rw c.unread-bytes.ensures.value at c.in_err-rest.ensures.failed)))

pub returns-in_err-end-clause-failed : goal.returns-in_err-end-clause-failed
returns-in_err-end-clause-failed g c =
    let was = c.turns.invariant in
    let takes = takes_both _ _ _ _ _ _ was.takes (rw c.unread-bytes.ensures.value at c.pass.ensures.takes) in
    let tells = tells_both _ _ _ _ _ _ _ _ _ _ was.tells (rw c.unread-bytes.ensures.value at c.in_ok-rest.ensures.told) in
    let p = err_from_is_err_and c.from_residual-in_err-end.result c.from_residual-in_err-end.ensures.1 in
    rw (p.1, p.2) (breaks_then _ _ _ _ _ _ _ _ _ _ _ _ _ _ _ takes tells c.in_err-end.ensures.failed)

pub returns-in-Ends-clause-ends : goal.returns-in-Ends-clause-ends
returns-in-Ends-clause-ends g c =
    let was = c.turns.invariant in
    let takes = takes_both _ _ _ _ _ _ was.takes (rw c.unread-bytes.ensures.value at c.pass.ensures.takes) in
    let tells = tells_both _ _ _ _ _ _ _ _ _ _ was.tells (rw c.unread-bytes.ensures.value at c.in_ok-rest.ensures.told) in
    turns_then _ _ _ _ _ c.go_on.new.place _ (turn.Ends c.in-Ends.end) _ _ _ _ _ _ takes tells (rw c.in-Ends.is at c.in_ok-end.ensures.turns)
