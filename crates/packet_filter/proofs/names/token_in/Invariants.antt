use Rattle.std.proofs.Common.{◌≡◌, length, map}
use Rattle.packet_filter.specs.Names.{token_in}
use Rattle.packet_filter.proofs.names.token_in.Given as goal

abbrev pub invariant-loop-names : goal.invariant-loop-names
invariant-loop-names l = token_in (map (λ n. (n.0.now, n.1)) l.names) l.word ≡ token_in (map (λ n. (n.0.now, n.1)) l.initial.names) l.word

abbrev pub decreases-loop-names : goal.decreases-loop-names
decreases-loop-names l = length l.names
