use Rattle.std.proofs.Common.{◌≢◌, ℕ, refl}
use Rattle.packet.specs.declared.lax_sliced_packet.LaxSlicedPacket.{LaxSlicedPacket}
use Rattle.packet_filter.specs.Private.Quick.{Asks}
use Rattle.packet_filter.specs.declared.filter.Step.{Step}
use Rattle.packet_filter.specs.declared.quick.Quick.{Quick}
use Rattle.packet_filter.specs.declared.quick.Quick.TheVariants as quick
use Rattle.packet_filter.proofs.quick.Quick.holds_by_itself.Goals as goal

-- only what is not prepared depends on the step
any_step : (q : Quick) (s t : Step) (lax : LaxSlicedPacket) (len : ℕ)
    → q ≢ quick.Other → Asks q s lax len → Asks q t lax len
any_step quick.Other s t lax len other h = absurd (other refl)
any_step _ s t lax len other h = h

pub returns-in_default : goal.returns-in_default
returns-in_default c =
    let of_any = λ (s t : Step).
    any_step c.args.self.now s t c.args.lax.now c.args.len c.in_default.not-Other in
    let holds = c.holds.ensures.value in
    record { value = λ step. (λ t. of_any _ step (holds.0 t), λ h. holds.1 (of_any step _ h)) }
