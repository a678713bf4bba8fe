use Rattle.std.proofs.Common.{◌++◌, append-nil, append_assoc, arith, length-append, take}
use Rattle.std.proofs.lemmas.List.Elements.{filter-append}
use Rattle.iphead.proofs.input.read_digits.Goals as goal

pub returns-then-n-eq0 : goal.returns-then-n-eq0
returns-then-n-eq0 g c = grind (arith, append-nil)

pub loop-n-preserved : goal.loop-n-preserved
loop-n-preserved g c =
    (c.loop-n.invariant.0 ++ take c.in_ok-n.n c.read.new.buf, grind (arith, append_assoc), grind (arith, filter-append), grind (arith, length-append))
