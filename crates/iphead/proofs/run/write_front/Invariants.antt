use Rattle.std.proofs.Common.{◌≤◌, ◌+◌, ◌-◌, length, take}
use Rattle.std.specs.Io.KnownBytes.{Appends}
use Rattle.iphead.proofs.run.write_front.Given as goal

abbrev pub invariant-writes : goal.invariant-writes
invariant-writes g l = let contents = g.W.Write.contents in
    Appends (contents l.fn.writer) (contents l.writer) (take l.len l.bytes) × (l.len ≤ length l.bytes)

abbrev pub decreases-writes : goal.decreases-writes
decreases-writes g l = length l.bytes - l.len + l.tries
