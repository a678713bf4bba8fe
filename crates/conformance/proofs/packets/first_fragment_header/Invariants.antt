use Rattle.std.proofs.Common.{◌≤◌, length}
use Rattle.conformance.proofs.packets.first_fragment_header.Given as goal

abbrev pub invariant-headers : goal.invariant-headers
invariant-headers l = length l.rest ≤ length l.fn.packet

abbrev pub decreases-headers : goal.decreases-headers
decreases-headers l = length l.rest
