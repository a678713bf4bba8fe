use Rattle.std.proofs.Common.{◌<◌, ◌≤◌, ◌⊎◌, [], ap, arith, inl, inr, length}
use Rattle.std.proofs.lemmas.Result.{err_from_is_err_and}
use Rattle.packet_capture.proofs.CutOffs.{cut_off_short}
use Rattle.ipcap.specs.Private.Progress.{IsTold, WantsMore}
use Rattle.ipcap.specs.Reading.{max_len}
use Rattle.packet_capture.specs.Skip.{front_len}
use Rattle.ipcap.specs.Streams.{unread}
use Rattle.ipcap.proofs.Runs.{ended, front_breaks, front_of_nothing, front_room, most_room, prints_nothing, read_breaks, reads_nothing, refused_ends, refused_within, tells_kept, told_cut_off, told_end, told_enough, unread_room}
use Rattle.ipcap.proofs.request.Request.go_on.Goals.{else-is_long-via-else-is_long, else-is_long-via-then-is_long+else-unread-front_len, in-CutOff+else-is_long, in-Empty}
use Rattle.ipcap.proofs.request.Request.go_on.Goals as goal

pub returns-in-Enough-clause-turns : goal.returns-in-Enough-clause-turns
returns-in-Enough-clause-turns g c =
    let enough = rw c.in-Enough.is at c.requires.stops in
    record { got = []; reads = reads_nothing _ _; told = told_enough _ _ _ _ _ _ enough (prints_nothing _ _); all = inr (λ rest. told_enough _ _ _ _ _ _ enough (prints_nothing _ _)) }

pub returns-in-Refused-clause-turns : goal.returns-in-Refused-clause-turns
returns-in-Refused-clause-turns g c =
    let stops = rw c.in-Refused.is at c.requires.stops in
    refused_ends _ _ _ c.args.place.now c.in-Refused.e c.args.input.now _ stops.0 (refused_within _ _ c.in-Refused.e (unread_room c.args.input.now) stops.2 stops.1) stops.2 stops.1

pub fill-requires : goal.fill-requires
fill-requires g c = elim c.match-stop.branch [
  | in-CutOff+else-is_long w ↦ (let stops = rw w.in-CutOff.is at c.requires.stops in elim w.else-is_long.branch [
    | else-is_long-via-then-is_long+else-unread-front_len v ↦ record { room = omega (arith, v.if-unread-front_len.false, ap length v.unread.ensures.value, v.front_len.ensures.value, front_room c.args.place.now.capture); written = c.in_ok-hand_over.ensures.all; reads_on = c.requires.reads_on }
    | else-is_long-via-else-is_long v ↦ record { room = omega (arith, v.if-is_long.false, w.max_len.ensures.value, most_room c.args.place.now.capture, cut_off_short _ _ _ stops.1); written = c.in_ok-hand_over.ensures.all; reads_on = c.requires.reads_on }
  ])
  | in-Empty w ↦ (let stops = rw w.in-Empty.is at c.requires.stops in record { room = omega (arith, ap length stops.1); written = c.in_ok-hand_over.ensures.all; reads_on = c.requires.reads_on })
]

pub returns-in_err-hand_over-clause-failed : goal.returns-in_err-hand_over-clause-failed
returns-in_err-hand_over-clause-failed g c =
    let p = err_from_is_err_and c.from_residual.result c.from_residual.ensures.1 in
    let failed = c.in_err-hand_over.ensures in
    rw (p.1, p.2, failed.failed.0) (front_breaks _ _ _ _ g.W.Sink.has_failed _ _ _ _ _ (front_of_nothing _ _ _ _ ⊥ c.args.place.now _ (unread c.args.input.now) _ _ failed.kept failed.failed.1))

pub returns-in_err-fill-clause-failed : goal.returns-in_err-fill-clause-failed
returns-in_err-fill-clause-failed g c =
    let told : IsTold g.W.Sink.contents c.args.self.now c.args.place.now c.args.place.now.totals c.match-stop.end c.args.output.now c.hand_over.new.self (unread c.args.input.now) = elim c.match-stop.branch [
      | in-CutOff+else-is_long w ↦ (let stops = rw w.in-CutOff.is at c.requires.stops in
          let short : (w.in-CutOff.e.required_len ≤ max_len c.args.place.now.capture) ⊎ (length (unread c.args.input.now) < front_len c.args.place.now.capture) = elim w.else-is_long.branch [
            | else-is_long-via-then-is_long+else-unread-front_len v ↦ inr (omega (arith, v.if-unread-front_len.false, ap length v.unread.ensures.value, v.front_len.ensures.value))
            | else-is_long-via-else-is_long v ↦ inl (omega (arith, v.if-is_long.false, w.max_len.ensures.value))
          ] in
          rw w.end-is (told_cut_off _ _ c.args.place.now _ w.in-CutOff.e _ _ stops.0 (record { refuses = stops.1; short = short }) c.in_ok-hand_over.ensures.kept))
      | in-Empty w ↦ (let stops = rw w.in-Empty.is at c.requires.stops in rw w.end-is (told_end _ _ _ _ _ _ stops.1 c.in_ok-hand_over.ensures.kept))
    ] in
    let wants : WantsMore c.args.self.now c.args.place.now.totals c.match-stop.end = elim c.match-stop.branch [
      | in-CutOff+else-is_long w ↦ rw w.end-is tt
      | in-Empty w ↦ (let stops = rw w.in-Empty.is at c.requires.stops in rw w.end-is stops.0)
    ] in
    let fill = c.in_err-fill.ensures in
    let p = err_from_is_err_and c.from_residual-in_err-fill.result c.from_residual-in_err-fill.ensures.1 in
    rw (p.1, p.2, fill.failed.0) (read_breaks _ _ c.args.self.now g.R.Source.has_failed g.W.Sink.has_failed c.args.place.now c.args.place.now.totals c.match-stop.end c.args.input.now c.fill.new.self c.args.output.now c.hand_over.new.self fill.takes.got fill.takes.reads (rw (fill.takes.takes, fill.unread) told) wants fill.failed.1)

pub returns-then-branch-clause-turns : goal.returns-then-branch-clause-turns
returns-then-branch-clause-turns g c = record { taken = []; takes = c.in_ok-fill.ensures.takes; tells = tells_kept _ _ _ _ _ c.in_ok-hand_over.ensures.kept; more = c.in_ok-fill.ensures.more c.if-branch.true }

pub returns-else-branch-clause-turns : goal.returns-else-branch-clause-turns
returns-else-branch-clause-turns g c =
    let told : IsTold g.W.Sink.contents c.args.self.now c.args.place.now c.args.place.now.totals c.match-stop.end c.args.output.now c.hand_over.new.self (unread c.args.input.now) = elim c.match-stop.branch [
      | in-CutOff+else-is_long w ↦ (let stops = rw w.in-CutOff.is at c.requires.stops in
          let short : (w.in-CutOff.e.required_len ≤ max_len c.args.place.now.capture) ⊎ (length (unread c.args.input.now) < front_len c.args.place.now.capture) = elim w.else-is_long.branch [
            | else-is_long-via-then-is_long+else-unread-front_len v ↦ inr (omega (arith, v.if-unread-front_len.false, ap length v.unread.ensures.value, v.front_len.ensures.value))
            | else-is_long-via-else-is_long v ↦ inl (omega (arith, v.if-is_long.false, w.max_len.ensures.value))
          ] in
          rw w.end-is (told_cut_off _ _ c.args.place.now _ w.in-CutOff.e _ _ stops.0 (record { refuses = stops.1; short = short }) c.in_ok-hand_over.ensures.kept))
      | in-Empty w ↦ (let stops = rw w.in-Empty.is at c.requires.stops in rw w.end-is (told_end _ _ _ _ _ _ stops.1 c.in_ok-hand_over.ensures.kept))
    ] in
    let fill = c.in_ok-fill.ensures in
    ended _ _ _ c.args.place.now c.match-stop.end _ _ _ _ told fill.takes (fill.same c.if-branch.false) (fill.end c.if-branch.false)
