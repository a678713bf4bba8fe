use Rattle.std.proofs.Common.{◌-◌, ◌≤◌, length}
use Rattle.etherparse.proofs.ExtensionHeaderChain.{SkippedUpTo}
use Rattle.etherparse.proofs.net.ipv6_header.Ipv6Header.skip_header_extensions_up_to.Given as goal

abbrev pub invariant-headers : goal.invariant-headers
invariant-headers l = record { so_far : SkippedUpTo l.slice l.fn.next_header l.offset l.number l.skipped; within : l.skipped ≤ l.limit }

abbrev pub decreases-headers : goal.decreases-headers
decreases-headers l = length l.initial.slice - l.offset
