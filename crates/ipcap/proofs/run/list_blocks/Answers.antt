use Rattle.std.proofs.Common.{◌≡◌, arith, refl}
use Rattle.std.proofs.lemmas.Result.{err_from_is_err_and}
use Rattle.ipcap.specs.declared.failure.Failure.TheVariants as failure
use Rattle.ipcap.proofs.Outcomes.{broken, broken_off, closed, not_closed}
use Rattle.ipcap.proofs.Runs.{prints_nothing}
use Rattle.ipcap.proofs.run.list_blocks.Goals as goal

read_is : ¬ (failure.Read ≡ failure.Write)
read_is e = grind arith

count_is : ¬ (failure.Count ≡ failure.Write)
count_is e = grind arith

pub returns-in-Err-Write-clause-failed : goal.returns-in-Err-Write-clause-failed
returns-in-Err-Write-clause-failed g c =
    let b = rw (c.in-Err-Write.field-0-is, c.none.ensures.value, c.is_some-reassembles.ensures) at c.in-Err-Write.ensures.failed in
    broken g.R.Source.remaining g.W.Sink.contents g.E.Sink.contents g.R.Source.has_failed g.W.Sink.has_failed g.E.Sink.has_failed c.args.request.now c.args.memory c.args.capture _ _ _ _ _ _ failure.Write b (prints_nothing _ _) b.tells.cause (rw c.in-Err-Write.field-0-is at c.in-Err-Write.ensures.unfailed_else)

pub returns-in_err-hand_over-in-Err-Read-clause-failed : goal.returns-in_err-hand_over-in-Err-Read-clause-failed
returns-in_err-hand_over-in-Err-Read-clause-failed g c =
    let b = rw (c.in-Err-Read.field-0-is, c.none.ensures.value, c.is_some-reassembles.ensures) at c.in-Err-Read.ensures.failed in
    let handed = c.in_err-hand_over-in-Err-Read.ensures in
    let p = err_from_is_err_and c.from_residual.result c.from_residual.ensures.1 in
    rw (p.1, p.2, handed.failed.0) (broken g.R.Source.remaining g.W.Sink.contents g.E.Sink.contents g.R.Source.has_failed g.W.Sink.has_failed g.E.Sink.has_failed c.args.request.now c.args.memory c.args.capture _ _ _ _ _ _ failure.Read b handed.kept handed.failed.1 (λ other. absurd (other refl)))

pub returns-in-Err-Read-clause-failed : goal.returns-in-Err-Read-clause-failed
returns-in-Err-Read-clause-failed g c =
    let b = rw (c.in-Err-Read.field-0-is, c.none.ensures.value, c.is_some-reassembles.ensures) at c.in-Err-Read.ensures.failed in
    let handed = c.in_ok-hand_over-in-Err-Read.ensures in
    broken_off g.R.Source.remaining g.W.Sink.contents g.E.Sink.contents g.R.Source.has_failed g.W.Sink.has_failed g.E.Sink.has_failed c.args.request.now c.args.memory c.args.capture _ _ _ _ _ _ failure.Read read_is b handed.kept handed.all (λ other. absurd (other refl))

pub returns-in_err-hand_over-in-Err-Count-clause-failed : goal.returns-in_err-hand_over-in-Err-Count-clause-failed
returns-in_err-hand_over-in-Err-Count-clause-failed g c =
    let b = rw (c.in-Err-Count.field-0-is, c.none.ensures.value, c.is_some-reassembles.ensures) at c.in-Err-Count.ensures.failed in
    let handed = c.in_err-hand_over-in-Err-Count.ensures in
    let p = err_from_is_err_and c.from_residual-in_err-hand_over-in-Err-Count.result c.from_residual-in_err-hand_over-in-Err-Count.ensures.1 in
    rw (p.1, p.2, handed.failed.0) (broken g.R.Source.remaining g.W.Sink.contents g.E.Sink.contents g.R.Source.has_failed g.W.Sink.has_failed g.E.Sink.has_failed c.args.request.now c.args.memory c.args.capture _ _ _ _ _ _ failure.Count b handed.kept handed.failed.1 (rw c.in-Err-Count.field-0-is at c.in-Err-Count.ensures.unfailed_else))

pub returns-in-Err-Count-clause-failed : goal.returns-in-Err-Count-clause-failed
returns-in-Err-Count-clause-failed g c =
    let b = rw (c.in-Err-Count.field-0-is, c.none.ensures.value, c.is_some-reassembles.ensures) at c.in-Err-Count.ensures.failed in
    let handed = c.in_ok-hand_over-in-Err-Count.ensures in
    broken_off g.R.Source.remaining g.W.Sink.contents g.E.Sink.contents g.R.Source.has_failed g.W.Sink.has_failed g.E.Sink.has_failed c.args.request.now c.args.memory c.args.capture _ _ _ _ _ _ failure.Count count_is b handed.kept handed.all (rw c.in-Err-Count.field-0-is at c.in-Err-Count.ensures.unfailed_else)

pub returns-in_err-close-clause-failed : goal.returns-in_err-close-clause-failed
returns-in_err-close-clause-failed g c =
    let b = rw (c.none.ensures.value, c.is_some-reassembles.ensures) at c.in-Ok.ensures.ends in
    let failed = c.in_err-close.ensures in
    let p = err_from_is_err_and c.from_residual-in_err-close.result c.from_residual-in_err-close.ensures.1 in
    rw (p.1, p.2, failed.failed.0) (not_closed g.R.Source.remaining g.W.Sink.contents g.E.Sink.contents g.R.Source.has_failed g.W.Sink.has_failed g.E.Sink.has_failed c.args.request.now c.args.memory c.args.capture _ _ _ _ _ _ _ _ b (rw c.is_some.ensures at failed.front) failed.failed.1 c.in-Ok.ensures.unfailed)

pub returns-clause-output : goal.returns-clause-output
returns-clause-output g c =
    let b = rw (c.none.ensures.value, c.is_some-reassembles.ensures) at c.in-Ok.ensures.ends in
    let done = c.in_ok-close.ensures in
    closed g.R.Source.remaining g.W.Sink.contents g.E.Sink.contents g.R.Source.has_failed g.W.Sink.has_failed g.E.Sink.has_failed c.args.request.now c.args.memory c.args.capture _ _ _ _ _ _ _ _ b _ _ c.status_at.ensures.value
    (rw c.is_some.ensures at done.prints) done.all (rw c.is_some.ensures at c.report.ensures.reports)
