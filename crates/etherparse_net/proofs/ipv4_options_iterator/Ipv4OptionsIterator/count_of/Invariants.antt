use Rattle.std.proofs.Common.{◌≡◌, ◌-◌, length}
use Rattle.etherparse_net.proofs.OptionLists.{CountedTo}
use Rattle.etherparse_net.specs.Ipv4Options.{IsIpv4Option}
use Rattle.etherparse_net.proofs.ipv4_options_iterator.Ipv4OptionsIterator.count_of.Given as goal

abbrev pub invariant-options : goal.invariant-options
invariant-options l =
    (l.left.options.now ≡ l.fn.options) × CountedTo IsIpv4Option l.fn.options l.left.offset l.count

abbrev pub decreases-options : goal.decreases-options
decreases-options l = length l.fn.options - l.left.offset
