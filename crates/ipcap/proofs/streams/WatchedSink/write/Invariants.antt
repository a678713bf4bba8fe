use Rattle.std.proofs.Common.{◌≡◌}
use Rattle.std.specs.Io.KnownBytes.{Keeps}
use Rattle.ipcap.proofs.streams.WatchedSink.write.Given as goal

abbrev pub invariant-tries : goal.invariant-tries
invariant-tries g l = Keeps (g.W.Write.contents l.fn.self.inner) (g.W.Write.contents l.self.inner) × (l.self.failure ≡ l.fn.self.failure)
