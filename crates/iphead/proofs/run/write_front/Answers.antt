use Rattle.std.proofs.Common.{arith}
use Rattle.std.proofs.KnownBytes.{Appends-trans}
use Rattle.std.proofs.Math.Seq.{take-add}
use Rattle.std.proofs.lemmas.List.{take_rest}
use Rattle.iphead.proofs.run.write_front.Goals as goal

pub writes-preserved-then-n-gt0 : goal.writes-preserved-then-n-gt0
writes-preserved-then-n-gt0 g c =
    (rw take-add (Appends-trans _ _ _ _ _ c.writes.invariant.0 (rw take_rest at c.in-Ok.ensures.appends)), omega (arith, c.in-Ok.ensures.bound))
