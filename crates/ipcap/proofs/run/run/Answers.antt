use Rattle.std.proofs.Common.{Err, Ok, ap, drop, subst, sym, ◌≡◌, ◌∙◌, List, ℕ}
use Rattle.std.proofs.lemmas.Result.{err_from_is_err_and}
use Rattle.packet.specs.Link.{link_type_of}
use Rattle.packet_capture.specs.Any.{ReadsFront}
use Rattle.packet_capture.specs.declared.any.Capture.{Capture}
use Rattle.ipcap.specs.Output.{HasReadFrames, IsCapture, header_len}
use Rattle.ipcap.proofs.Fronts.{blocks_are}
use Rattle.ipcap.proofs.Outcomes.{header_broken, listing_fails_by, lists_by, no_capture, not_begun, other_frames, refuses}
use Rattle.ipcap.proofs.Runs.{on_ok}
use Rattle.ipcap.specs.Streams.{NoReadFails}
use Rattle.ipcap.proofs.run.run.Goals as goal

reads_at : (input front : List ℕ) (capture : Capture) (blocks : List ℕ) → front ≡ input → ReadsFront front (Ok (capture, blocks)) → ReadsFront input (Ok (capture, blocks))
reads_at input front capture blocks same reads = subst (λ x. ReadsFront x (Ok (capture, blocks))) same reads

is_capture : (input front : List ℕ) (capture : Capture) (blocks : List ℕ) → front ≡ input → ReadsFront front (Ok (capture, blocks)) → HasReadFrames capture → IsCapture input capture (drop (header_len capture) input)
is_capture input front capture blocks same reads is =
    let found = reads_at input front capture blocks same reads in
    record { front = subst (λ b. ReadsFront input (Ok (capture, b))) (blocks_are input capture blocks found) found; is_read = is }

pub returns-in_err-fill_to_front-clause-failed : goal.returns-in_err-fill_to_front-clause-failed
returns-in_err-fill_to_front-clause-failed g c =
    let failed = c.in_err-fill_to_front.ensures in
    let p = err_from_is_err_and c.from_residual.result c.from_residual.ensures.1 in
    rw (p.1, p.2, failed.failed.0) (header_broken g.R.Source.remaining g.W.Sink.contents g.E.Sink.contents g.R.Source.has_failed g.W.Sink.has_failed g.E.Sink.has_failed c.args.request.now c.args.memory _ _ failed.takes _ _ c.requires.fresh.0 failed.failed.2 failed.failed.1)

pub returns-in-Err-clause-output : goal.returns-in-Err-clause-output
returns-in-Err-clause-output g c =
    let read = c.in_ok-fill_to_front.ensures in
    let none = subst (λ u. ReadsFront u (Err c.in-Err.e)) c.unread-front.ensures.value c.in-Err.ensures.reads in
    refuses _ _ _ g.R.Source.has_failed g.W.Sink.has_failed g.E.Sink.has_failed c.args.request.now c.args.memory _ _ read.takes _ _ _ _ (no_capture _ _ _ _ _ read.enough none) c.report.ensures.reports

pub returns-in-Some-clause-output : goal.returns-in-Some-clause-output
returns-in-Some-clause-output g c =
    let found = reads_at _ _ _ _ c.unread-front.ensures.value c.in-Ok.ensures.reads in
    let other = c.in-Some.ensures.some in
    refuses _ _ _ g.R.Source.has_failed g.W.Sink.has_failed g.E.Sink.has_failed c.args.request.now c.args.memory _ _ c.in_ok-fill_to_front.ensures.takes _ _ _ _
    (rw other.is_number (other_frames _ _ _ _ _ other.header (rw other.is at found) (sym (ap link_type_of other.is_number) ∙ other.other))) c.report-in-Some.ensures.reports

pub returns-in_err-copy_if-clause-failed : goal.returns-in_err-copy_if-clause-failed
returns-in_err-copy_if-clause-failed g c =
    let failed = c.in_err-copy_if.ensures in
    let p = err_from_is_err_and c.from_residual-in_err-copy_if.result c.from_residual-in_err-copy_if.ensures.1 in
    rw (p.1, p.2, failed.failed.0) (not_begun g.R.Source.remaining g.W.Sink.contents g.E.Sink.contents g.R.Source.has_failed g.W.Sink.has_failed g.E.Sink.has_failed c.args.request.now c.args.memory _ _ c.in_ok-fill_to_front.ensures.takes
    c.in-Ok.capture (is_capture _ _ _ _ c.unread-front.ensures.value c.in-Ok.ensures.reads c.in-None.ensures.none) c.args.input.now _ _ _ c.requires.fresh.0 failed.kept failed.failed.1 c.in_ok-fill_to_front.ensures.unfailed)

pub returns-clause-output : goal.returns-clause-output
returns-clause-output g c =
    lists_by g.R.Source.remaining g.W.Sink.contents g.E.Sink.contents g.R.Source.has_failed g.W.Sink.has_failed g.E.Sink.has_failed c.args.request.now c.args.memory _ _ c.in_ok-fill_to_front.ensures.takes
    c.in-Ok.capture (is_capture _ _ _ _ c.unread-front.ensures.value c.in-Ok.ensures.reads c.in-None.ensures.none) c.pass.new.self c.args.output.now c.copy_if.new.self c.args.errors.now c.requires.fresh.0 (rw c.header_len-len.ensures.value at c.pass.ensures.takes) (rw c.header_len-len.ensures.value at c.pass.ensures.rest)
    (rw (c.copies.ensures.value, c.unread-front.ensures.value, c.header_len-len.ensures.value) at c.in_ok-copy_if.ensures.prints) c.list_blocks.new.input c.list_blocks.new.output c.list_blocks.new.errors _ c.list_blocks.ensures.output

pub returns-clause-failed : goal.returns-clause-failed
returns-clause-failed g c =
    listing_fails_by g.R.Source.remaining g.W.Sink.contents g.E.Sink.contents g.R.Source.has_failed g.W.Sink.has_failed g.E.Sink.has_failed c.args.request.now c.args.memory _ _ c.in_ok-fill_to_front.ensures.takes
    c.in-Ok.capture (is_capture _ _ _ _ c.unread-front.ensures.value c.in-Ok.ensures.reads c.in-None.ensures.none) c.pass.new.self c.args.output.now c.copy_if.new.self c.args.errors.now c.requires.fresh.0 (rw c.header_len-len.ensures.value at c.pass.ensures.takes) (rw c.header_len-len.ensures.value at c.pass.ensures.rest)
    (rw (c.copies.ensures.value, c.unread-front.ensures.value, c.header_len-len.ensures.value) at c.in_ok-copy_if.ensures.prints) c.list_blocks.new.input c.list_blocks.new.output c.list_blocks.new.errors c.in_ok-fill_to_front.ensures.unfailed c.pass.ensures.source _ c.list_blocks.ensures.failed

pub returns-clause-unfailed : goal.returns-clause-unfailed
returns-clause-unfailed g c =
    let then : NoReadFails g.R.Source.has_failed c.pass.new.self c.list_blocks.new.input → NoReadFails g.R.Source.has_failed c.args.input.now c.list_blocks.new.input =
    λ later x. c.in_ok-fill_to_front.ensures.unfailed (subst g.R.Source.has_failed c.pass.ensures.source (later x)) in
    on_ok _ then c.list_blocks.ensures.unfailed
