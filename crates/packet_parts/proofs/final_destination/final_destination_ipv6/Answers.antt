use Rattle.packet_parts.proofs.FinalDestinations.{goes_once_ipv6}
use Rattle.packet_parts.proofs.final_destination.final_destination_ipv6.Goals as goal

pub returns-clause-only : goal.returns-clause-only
returns-clause-only c = λ other is. goes_once_ipv6 _ _ _ _ _ is c.follow.ensures.follows
