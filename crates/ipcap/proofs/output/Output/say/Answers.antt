use Rattle.std.proofs.Common.{Some}
use Rattle.std.specs.declared.io.Error.{Error}
use Rattle.ipcap.proofs.Said.{says}
use Rattle.ipcap.proofs.output.Output.say.Goals as goal

pub returns-in-Ok : goal.returns-in-Ok
returns-in-Ok g c = record {
  says = says g.W.Sink.contents g.W.Sink.has_failed (g.W.Sink.is_text Error) c.args.what.now c.args.why (Some c.as_str.result.now) _ _ _ (rw (c.in-Some.is, c.as_str.ensures.value) c.in-Ok.ensures.made) c.format.ensures.kept c.report_fault-in-Ok.ensures.reports;
}
