use Rattle.std.proofs.Common.{◌≡◌, ◌++◌, List, ℕ, length}
use Rattle.ipcap.specs.Private.Progress.{Tells}
use Rattle.ipcap.specs.Reading.{max_len}
use Rattle.ipcap.specs.Streams.{NoWriteFails}
use Rattle.ipcap.proofs.request.Request.list_front.Given as goal

abbrev pub invariant-fronts : goal.invariant-fronts
invariant-fronts g l = record {
  most : l.most ≡ max_len l.place.capture;
  taken : List ℕ;
  whole : l.fn.bytes ≡ taken ++ l.rest;
  tells : Tells g.W.Sink.contents l.self l.fn.place l.place taken l.fn.output l.output;
  unfailed_writes : NoWriteFails g.W.Sink.has_failed l.fn.output l.output;
}

abbrev pub decreases-fronts : goal.decreases-fronts
decreases-fronts g l = length l.rest
