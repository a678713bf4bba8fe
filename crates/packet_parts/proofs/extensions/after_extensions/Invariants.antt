use Rattle.std.proofs.Common.{◌≤◌, length}
use Rattle.etherparse.specs.ExtensionHeaderChain.{FollowsChain}
use Rattle.packet_parts.specs.Extensions.{Passes}
use Rattle.packet_parts.proofs.extensions.after_extensions.Given as goal

abbrev pub invariant-headers : goal.invariant-headers
invariant-headers l = record {
  within : length l.rest ≤ length l.fn.body;
  chain : FollowsChain l.fn.body l.fn.first l.number l.rest;
  passes : Passes l.fn.body l.fn.first l.fragment l.number l.rest;
}

abbrev pub decreases-headers : goal.decreases-headers
decreases-headers l = length l.rest
