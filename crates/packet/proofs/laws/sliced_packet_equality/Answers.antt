use Rattle.std.proofs.Common.{◌≡◌, Bool, subst, sym}
use Rattle.std.specs.Prelude.{◌↔◌, IsTrue}
use Rattle.packet.proofs.Equality.{packet_eq}
use Rattle.packet.specs.SlicedPacket.{layers_of}
use Rattle.packet.proofs.laws.sliced_packet_equality.Goals as goal

pub returns : goal.returns
returns c = record { same_layers = subst (λ (b : Bool). IsTrue b ↔ (layers_of c.args.a.now ≡ layers_of c.args.b.now)) (sym c.eq.ensures) (packet_eq c.args.a.now c.args.b.now) }
