use Rattle.std.proofs.Common.{length}
use Rattle.etherparse_tests.proofs.captures.captures_of_either_format.Given as goal

abbrev pub decreases-next : goal.decreases-next
decreases-next g l = length l.rest
