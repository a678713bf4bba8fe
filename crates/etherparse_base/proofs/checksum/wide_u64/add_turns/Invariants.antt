use Rattle.std.proofs.Common.{length}
use Rattle.etherparse_base.specs.Private.WideSums.{AddsTurns, lanes_added}
use Rattle.etherparse_base.proofs.checksum.wide_u64.add_turns.Given as goal

abbrev pub invariant-threes : goal.invariant-threes
invariant-threes l = AddsTurns l.fn.slice (lanes_added l.second_total l.third_total) l.at l.rest

abbrev pub decreases-threes : goal.decreases-threes
decreases-threes l = length l.rest

abbrev pub invariant-ones : goal.invariant-ones
invariant-ones l = AddsTurns l.fn.slice (lanes_added l.second_total l.third_total) l.at l.rest

abbrev pub decreases-ones : goal.decreases-ones
decreases-ones l = length l.rest
