use Rattle.std.proofs.Common.{◌≡◌, Bool, subst, sym}
use Rattle.std.specs.Prelude.{◌↔◌, IsTrue}
use Rattle.packet.proofs.Equality.{lax_eq}
use Rattle.packet.specs.SlicedPacket.{lax_layers}
use Rattle.packet.proofs.laws.lax_sliced_packet_equality.Goals as goal

pub returns : goal.returns
returns c = record { same_layers = subst (λ (b : Bool). IsTrue b ↔ (lax_layers c.args.a.now ≡ lax_layers c.args.b.now)) (sym c.eq.ensures) (lax_eq c.args.a.now c.args.b.now) }
