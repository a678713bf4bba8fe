use Rattle.std.proofs.Common.{arith}
use Rattle.std.proofs.lemmas.Bool.Decides.{nat_tests}
use Rattle.etherparse.proofs.Walks.{walk_follows, walk_upper}
use Rattle.etherparse.proofs.net.ipv6_header.Ipv6Header.is_skippable_header_extension.Goals as goal

pub returns-clause-ends : goal.returns-clause-ends
returns-clause-ends c = λ s first rest f upper.
    walk_follows _ rest _ (walk_upper _ rest (c.unit_of.ensures.skippable.0 (grind (arith, nat_tests)))) s first f
