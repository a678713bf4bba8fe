use Rattle.std.proofs.Common.{length}
use Rattle.etherparse.specs.ExtensionHeaderChain.{FollowsChain}
use Rattle.uses.proofs.upper_layer.walked_by_skips.Given as goal

abbrev pub invariant-skips : goal.invariant-skips
invariant-skips l = FollowsChain l.fn.slice l.fn.first l.number l.rest

abbrev pub decreases-skips : goal.decreases-skips
decreases-skips l = length l.rest
