use Rattle.packet_parts.proofs.OriginalSources.{comes_once_ipv6}
use Rattle.packet_parts.proofs.original_source.original_source_ipv6.Goals as goal

pub returns-clause-only : goal.returns-clause-only
returns-clause-only c = λ other is. comes_once_ipv6 _ _ _ _ _ is c.follow.ensures.follows
