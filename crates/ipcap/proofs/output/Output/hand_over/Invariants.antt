use Rattle.std.proofs.Common.{◌≡◌, ◌-◌, []}
use Rattle.arrayvec.specs.ArrayVec.{array_vec_len}
use Rattle.ipcap.specs.Streams.{NoWriteFails, Prints}
use Rattle.ipcap.proofs.output.Output.hand_over.Given as goal

abbrev pub invariant-writes : goal.invariant-writes
invariant-writes g l = record {
  kept : Prints g.W.Sink.contents l.fn.self l.self [];
  line : l.self.line ≡ l.fn.self.line;
  unfailed_writes : NoWriteFails g.W.Sink.has_failed l.fn.self l.self;
}

abbrev pub decreases-writes : goal.decreases-writes
decreases-writes g l = array_vec_len l.self.text - l.self.passed
