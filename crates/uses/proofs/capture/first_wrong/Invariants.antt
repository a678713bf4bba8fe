use Rattle.std.proofs.Common.{length}
use Rattle.uses.specs.Capture.{Reaches}
use Rattle.uses.proofs.capture.first_wrong.Given as goal

abbrev pub invariant-records : goal.invariant-records
invariant-records l = Reaches l.fn.file l.header l.rest

abbrev pub decreases-records : goal.decreases-records
decreases-records l = length l.rest
