use Rattle.std.proofs.Common.{rules}
use Rattle.std.proofs.lemmas.List.{take_rest}
use Rattle.etherparse.proofs.ExtensionHeaderChain.{chain_goes_on}
use Rattle.etherparse.proofs.Walks.{is_only_walk_of, walk_follows, walk_short}
use Rattle.etherparse.specs.ExtensionHeaderChain.{IsWalkOf}
use Rattle.etherparse.proofs.net.ipv6_header.Ipv6Header.skip_header_extension_in_slice.Goals as goal

pub returns-then-slice-required_len-clause-walks : goal.returns-then-slice-required_len-clause-walks
unfolding IsWalkOf
returns-then-slice-required_len-clause-walks c = search (rules, is_only_walk_of, walk_short, c.is_skippable_header_extension.ensures.value.0)

pub returns-then-slice-required_len-clause-ends : goal.returns-then-slice-required_len-clause-ends
unfolding IsWalkOf
returns-then-slice-required_len-clause-ends c = λ s first f. walk_follows _ _ _ (returns-then-slice-required_len-clause-walks c).walks s first f

pub returns-clause-goes_on : goal.returns-clause-goes_on
returns-clause-goes_on c = search (rules, chain_goes_on, take_rest, c.is_skippable_header_extension.ensures.value.0)
