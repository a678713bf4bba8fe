use Rattle.std.proofs.Common.{rules}
use Rattle.uses.proofs.filter.is_ipv4_view_for.Goals as goal

pub returns : goal.returns
returns c = record { header = λ h l. search (rules, c.dcp.ensures.value h l, c.destination.ensures.value h l) }
