use Rattle.std.proofs.Common.{true, arith, inl, refl}
use Rattle.std.proofs.lemmas.Result.{err_from_is_err_and}
use Rattle.packet_capture.proofs.CutOffs.{cut_off_front}
use Rattle.ipcap.specs.Streams.{unread}
use Rattle.ipcap.proofs.Runs.{front_breaks, front_of_nothing, least_long, long_front, past_breaks, past_skipped, refused_long_ends, told_cut, told_otherwise}
use Rattle.ipcap.proofs.request.Request.list_past.Goals as goal

pub unreachable-requires : goal.unreachable-requires
unreachable-requires g c =
    cut_off_front _ (unread c.args.input.now) _ c.in-Err.field-0 c.requires.refused (omega (arith, least_long c.args.place.now.capture, c.requires.long)) (rw c.unread.ensures.value at c.in-Err.ensures.reads)

pub returns-in-Refused-clause-turns : goal.returns-in-Refused-clause-turns
returns-in-Refused-clause-turns g c =
    let has = long_front _ (unread c.args.input.now) _ c.in-Ok.front c.requires.enough c.requires.refused c.requires.long (rw c.unread.ensures.value at c.in-Ok.ensures.reads) in
    refused_long_ends _ _ _ c.args.place.now c.in-Ok.front _ _ _ c.requires.going has.0 (rw c.in-Refused.is refl)

pub returns-in-Description-clause-turns : goal.returns-in-Description-clause-turns
returns-in-Description-clause-turns g c =
    let has = long_front _ (unread c.args.input.now) _ c.in-Ok.front c.requires.enough c.requires.refused c.requires.long (rw c.unread.ensures.value at c.in-Ok.ensures.reads) in
    refused_long_ends _ _ _ c.args.place.now c.in-Ok.front _ _ _ c.requires.going has.0 (rw c.in-Description.is refl)

pub returns-in_err-list_front_of-clause-failed : goal.returns-in_err-list_front_of-clause-failed
returns-in_err-list_front_of-clause-failed g c =
    let p = err_from_is_err_and c.from_residual.result c.from_residual.ensures.1 in
    let failed = c.in_err-list_front_of.ensures in
    rw (p.1, p.2) (front_breaks _ _ _ _ g.W.Sink.has_failed _ _ _ _ _ (front_of_nothing _ _ _ _ _ c.args.place.now _ (unread c.args.input.now) _ _ failed.kept failed.failed))

pub returns-in_err-len-clause-failed : goal.returns-in_err-len-clause-failed
returns-in_err-len-clause-failed g c =
    let has = long_front _ (unread c.args.input.now) _ c.in-Ok.front c.requires.enough c.requires.refused c.requires.long (rw c.unread.ensures.value at c.in-Ok.ensures.reads) in
    let p = err_from_is_err_and c.from_residual-in_err-len.result c.from_residual-in_err-len.ensures.1 in
    rw (p.1, p.2) (past_breaks _ _ _ c.args.place.now c.list_front_of.new.totals c.in-Ok.front _ _ _ _ _ c.requires.going has.0 has.1 c.in_ok-list_front_of.ensures.told g.R.Source.has_failed g.W.Sink.has_failed _ (rw c.keeps.ensures.value at c.in_err-len.ensures.lacks))

pub returns-then-len-front-clause-turns : goal.returns-then-len-front-clause-turns
returns-then-len-front-clause-turns g c =
    let has = long_front _ (unread c.args.input.now) _ c.in-Ok.front c.requires.enough c.requires.refused c.requires.long (rw c.unread.ensures.value at c.in-Ok.ensures.reads) in
    let k = rw c.keeps.ensures.value at c.in_ok-len.ensures.skips in
    record {
      got = k.takes.got;
      reads = k.takes.reads;
      told = told_cut _ _ _ c.args.place.now c.list_front_of.new.totals c.in-Ok.front _ _ _ _ _ c.requires.going has.0 has.1 c.in_ok-list_front_of.ensures.told _ _ k c.if-len-front.true;
      all = inl (c.in_ok-len.ensures.end c.if-len-front.true);
    }

pub returns-in-Ok-check_end-clause-turns : goal.returns-in-Ok-check_end-clause-turns
returns-in-Ok-check_end-clause-turns g c =
    let has = long_front _ (unread c.args.input.now) _ c.in-Ok.front c.requires.enough c.requires.refused c.requires.long (rw c.unread.ensures.value at c.in-Ok.ensures.reads) in
    let k = rw c.keeps.ensures.value at c.in_ok-len.ensures.skips in
    past_skipped _ _ _ c.args.place.now c.list_front_of.new.totals c.in-Ok.front _ _ _ _ _ c.requires.going has.0 has.1 c.in_ok-list_front_of.ensures.told _ _ k _ (c.pass_block.ensures.counted true) (omega (arith, k.within, c.if-len-front.false)) c.in-Ok-check_end.ensures.same

pub returns-in-Err-check_end-clause-turns : goal.returns-in-Err-check_end-clause-turns
returns-in-Err-check_end-clause-turns g c =
    let has = long_front _ (unread c.args.input.now) _ c.in-Ok.front c.requires.enough c.requires.refused c.requires.long (rw c.unread.ensures.value at c.in-Ok.ensures.reads) in
    let k = rw c.keeps.ensures.value at c.in_ok-len.ensures.skips in
    told_otherwise _ _ _ c.args.place.now c.list_front_of.new.totals c.in-Ok.front _ _ _ _ _ c.requires.going has.0 has.1 c.in_ok-list_front_of.ensures.told _ _ k c.in-Err-check_end.e (omega (arith, k.within, c.if-len-front.false)) c.in-Err-check_end.ensures.other
