use Rattle.std.proofs.Common.{Bool, subst, sym}
use Rattle.std.specs.Prelude.{◌↔◌, IsTrue}
use Rattle.packet.proofs.Equality.{SameLinkLayers, link_layers_eq}
use Rattle.packet.proofs.laws.link_layers_equality.Goals as goal

pub returns : goal.returns
returns c = record { same_layers = subst (λ (b : Bool). IsTrue b ↔ SameLinkLayers c.args.a.now c.args.b.now) (sym c.eq.ensures) (link_layers_eq c.args.a.now c.args.b.now) }
