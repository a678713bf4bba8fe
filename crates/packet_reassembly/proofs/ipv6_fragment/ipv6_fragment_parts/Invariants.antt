use Rattle.std.proofs.Common.{length}
use Rattle.packet_reassembly.proofs.Walked.{IsWalked}
use Rattle.packet_reassembly.proofs.ipv6_fragment.ipv6_fragment_parts.Given as goal

abbrev pub invariant-headers : goal.invariant-headers
invariant-headers l = IsWalked l.body l.fn.first l.last l.at l.number l.rest

abbrev pub decreases-headers : goal.decreases-headers
decreases-headers l = length l.rest
