use Rattle.std.proofs.Common.{◌≡◌, ℕ, List, Option, Some, refl, subst}
use Rattle.std.specs.Prelude.{◌↔◌}
use Rattle.packet.specs.declared.sliced_packet.SlicedPacket.{SlicedPacket}
use Rattle.packet_filter.specs.Meaning.{IsNumberAt, Loads, Tells}
use Rattle.packet_filter.specs.declared.expression.Layer.{Layer}
use Rattle.packet_filter.specs.declared.expression.Quantity.TheVariants.{Load}
use Rattle.packet_filter.specs.declared.expression.Size.{Size}
use Rattle.packet_filter.proofs.number.told.Goals as goal

-- what is loaded is told by the only bytes that there are to load
told_by_load : (l : Layer) (place : ℕ) (size : Size) (packet : SlicedPacket) (len : ℕ) (bytes : List ℕ) (found : Option ℕ)
    → ((b : List ℕ) → Loads l packet b ↔ (Some bytes ≡ Some b)) → ((n : ℕ) → IsNumberAt size place bytes n ↔ (found ≡ Some n))
    → (n : ℕ) → Tells (Load l place size) packet len n ↔ (found ≡ Some n)
told_by_load l place size packet len bytes found loads at n = (
  λ t. let same : t.0 ≡ bytes = cc ((loads t.0).0 t.1) in (at n).0 (subst (λ s. IsNumberAt size place s n) same t.2),
  λ e. (bytes, (loads bytes).1 refl, (at n).1 e),
)

pub returns-in-Some : goal.returns-in-Some
returns-in-Some c = record { value = rw c.in-Load.is (told_by_load c.in-Load.layer c.in-Load.place c.in-Load.size c.args.packet.now c.args.len _ _ c.in-Some.ensures.value c.number.ensures.value) }
