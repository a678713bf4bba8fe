use Rattle.packet.proofs.Equality.{link_eq}
use Rattle.packet.proofs.laws.link_view_equality.Goals as goal

pub returns : goal.returns
returns c = record { same_parts = rw c.eq.ensures (link_eq c.args.a.now c.args.b.now) }
