use Rattle.std.proofs.Common.{◌≡◌, ◌-◌, length, option_map}
use Rattle.packet_parts.proofs.FinalDestinations.{ReadTo}
use Rattle.packet_parts.proofs.final_destination.first_source_route.Given as goal

abbrev pub invariant-options : goal.invariant-options
invariant-options l = (l.left.options.now ≡ l.fn.options)
    × ReadTo l.fn.options l.left.offset (option_map (λ route. route.now) l.first)

abbrev pub decreases-options : goal.decreases-options
decreases-options l = length l.fn.options - l.left.offset
