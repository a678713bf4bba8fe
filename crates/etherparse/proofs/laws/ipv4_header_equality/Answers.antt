use Rattle.std.proofs.Common.{rules, tests}
use Rattle.etherparse.proofs.laws.ipv4_header_equality.Goals as goal

pub returns : goal.returns
returns c = search (tests, rules)
