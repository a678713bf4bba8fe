use Rattle.std.proofs.Common.{rules}
use Rattle.etherparse_base.proofs.err.ipv4.header_error.HeaderErrorDisplay.fmt.Goals as goal

pub returns-in-HeaderLengthSmallerThanHeader-clause-writes : goal.returns-in-HeaderLengthSmallerThanHeader-clause-writes
returns-in-HeaderLengthSmallerThanHeader-clause-writes c = search rules
