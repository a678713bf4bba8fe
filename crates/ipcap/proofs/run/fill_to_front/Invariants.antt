use Rattle.std.proofs.Common.{[], ◌-◌, ◌^◌}
use Rattle.ipcap.specs.Streams.{NoReadFails, Takes}
use Rattle.ipcap.proofs.run.fill_to_front.Given as goal

abbrev pub invariant-reads : goal.invariant-reads
invariant-reads g l = record {
  takes : Takes g.R.Source.remaining l.fn.input l.input [];
  unfailed : NoReadFails g.R.Source.has_failed l.fn.input l.input;
  goes_on : g.R.Source.goes_on l.input.source;
}

abbrev pub decreases-reads : goal.decreases-reads
decreases-reads g l = 2 ^ 64 - l.input.count
