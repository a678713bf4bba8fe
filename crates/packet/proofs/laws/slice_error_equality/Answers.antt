use Rattle.std.proofs.Common.{◌≡◌, Bool, subst, sym}
use Rattle.std.specs.Prelude.{◌↔◌, IsTrue}
use Rattle.packet.proofs.Equality.{error_eq}
use Rattle.packet.proofs.laws.slice_error_equality.Goals as goal

pub returns : goal.returns
returns c = record { same_value = subst (λ (b : Bool). IsTrue b ↔ (c.args.a.now ≡ c.args.b.now)) (sym c.eq.ensures) (error_eq c.args.a.now c.args.b.now) }
