use Rattle.std.proofs.Common.{ap, false, length, true}
use Rattle.std.specs.Bool.{then_some}
use Rattle.std.specs.Option.{is_none}
use Rattle.ipcap.specs.Private.Progress.{TellsBlock}
use Rattle.ipcap.specs.Totals.{packet}
use Rattle.ipcap.specs.declared.reading.Reading.TheVariants.{Skipped}
use Rattle.ipcap.proofs.Runs.{on_ok, prints_nothing, subst_at}
use Rattle.ipcap.proofs.request.Request.list_too_long.Goals as goal

pub returns-in-None-clause-told : goal.returns-in-None-clause-told
returns-in-None-clause-told g c =
    let found = ap (λ filter. then_some (is_none filter) Skipped) c.in-None.is in
    on_ok c.list_packet.result (λ t. subst_at (λ x. TellsBlock g.W.Sink.contents c.args.self.now (length c.args.bytes.now) true (packet false c.args.head.now x) c.args.totals.now c.list_packet.new.totals c.args.bytes.now c.args.output.now c.list_packet.new.output) found (t true)) c.list_packet.ensures.told

pub returns-then-pass-clause-told : goal.returns-then-pass-clause-told
returns-then-pass-clause-told g c =
    let found = ap (λ filter. then_some (is_none filter) Skipped) c.in-Some.is in
    subst_at (λ x. TellsBlock g.W.Sink.contents c.args.self.now (length c.args.bytes.now) true (packet false c.args.head.now x) c.args.totals.now c.pass.new.self c.args.bytes.now c.args.output.now c.args.output.now) found (record { counts = c.pass.ensures.counted c.if-pass.true false; prints = prints_nothing _ _ })
