use Rattle.std.proofs.Common.{ℕ, List, Option, length}
use Rattle.packet_parts.specs.CoveredAddresses.{FollowsIpv6}
use Rattle.packet_parts.specs.Sides.{LeavesAt}
use Rattle.packet_parts.proofs.covered_addresses.follow.Given as goal

abbrev pub invariant-headers : goal.invariant-headers
invariant-headers l = (last : Option (List ℕ)) → FollowsIpv6 (LeavesAt l.fn.side) l.last l.number l.rest last
    → FollowsIpv6 (LeavesAt l.fn.side) l.fn.address l.fn.first l.fn.extensions last

abbrev pub decreases-headers : goal.decreases-headers
decreases-headers l = length l.rest
