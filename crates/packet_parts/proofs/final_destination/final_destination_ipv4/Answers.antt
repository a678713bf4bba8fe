use Rattle.std.proofs.Common.{ap, sym, ◌∙◌}
use Rattle.packet_parts.specs.FinalDestination.{after_route}
use Rattle.packet_parts.proofs.final_destination.final_destination_ipv4.Goals as goal

pub returns-in-Some-clause-only : goal.returns-in-Some-clause-only
returns-in-Some-clause-only c = λ other goes.
    goes.is_final ∙ ap (after_route c.args.destination) (c.in-Some.ensures.only goes.route goes.has_route) ∙ sym c.after_route.ensures.value

pub returns-in-None-clause-only : goal.returns-in-None-clause-only
returns-in-None-clause-only c = λ other goes. goes.is_final ∙ ap (after_route c.args.destination) (c.in-None.ensures.only goes.route goes.has_route)
