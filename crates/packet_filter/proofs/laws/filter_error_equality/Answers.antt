use Rattle.std.proofs.Common.{◌≡◌, Bool, subst, sym}
use Rattle.std.specs.Prelude.{◌↔◌, IsTrue}
use Rattle.packet_filter.proofs.Equality.{error_eq}
use Rattle.packet_filter.proofs.laws.filter_error_equality.Goals as goal

pub returns : goal.returns
returns c = record { same_value = subst (λ (b : Bool). IsTrue b ↔ (c.args.a.now ≡ c.args.b.now)) (sym c.eq.ensures) (error_eq c.args.a.now c.args.b.now) }
