use Rattle.std.proofs.Common.{◌-◌, ◌^◌, List, ℕ}
use Rattle.ipcap.specs.Private.Progress.{Tells}
use Rattle.ipcap.specs.Streams.{NoReadFails, NoWriteFails, Takes}
use Rattle.ipcap.proofs.request.Request.list.Given as goal

abbrev pub invariant-turns : goal.invariant-turns
invariant-turns g l = record {
  taken : List ℕ;
  takes : Takes g.R.Source.remaining l.fn.input l.input taken;
  tells : Tells g.W.Sink.contents l.self l.fn.place l.place taken l.fn.output l.output;
  unfailed : NoReadFails g.R.Source.has_failed l.fn.input l.input;
  goes_on : g.R.Source.goes_on l.input.source;
  unfailed_writes : NoWriteFails g.W.Sink.has_failed l.fn.output l.output;
}

abbrev pub decreases-turns : goal.decreases-turns
decreases-turns g l = 2 ^ 64 - l.input.count
