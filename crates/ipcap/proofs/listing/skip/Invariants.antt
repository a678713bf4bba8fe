use Rattle.std.proofs.Common.{◌≡◌, ◌-◌, ◌≤◌, ◌^◌, List, ℕ, length}
use Rattle.ipcap.specs.Private.Progress.{last_four}
use Rattle.ipcap.specs.Streams.{NoReadFails, NoWriteFails, Prints, Takes, kept_if}
use Rattle.ipcap.proofs.listing.skip.Given as goal

abbrev pub invariant-turns : goal.invariant-turns
invariant-turns g l = record {
  within : l.left ≤ l.len;
  taken : List ℕ;
  takes : Takes g.R.Source.remaining l.fn.input l.input taken;
  many : length taken ≡ l.len - l.left;
  last : l.last ≡ last_four taken;
  prints : Prints g.W.Sink.contents l.fn.output l.output (kept_if l.keeps taken);
  unfailed : NoReadFails g.R.Source.has_failed l.fn.input l.input;
  goes_on : g.R.Source.goes_on l.input.source;
  unfailed_writes : NoWriteFails g.W.Sink.has_failed l.fn.output l.output;
}

abbrev pub decreases-turns : goal.decreases-turns
decreases-turns g l = 2 ^ 64 - l.input.count
