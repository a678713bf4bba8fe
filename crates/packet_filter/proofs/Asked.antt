-- What a quick test asks for is what its primitive says.
use Rattle.std.proofs.Common.{◌≡◌, ◌↔◌, ℕ, ◌-◌, ◌/◌, ◌%◌, ◌^◌, Option, Some, None, arith, inl, inr, refl, subst, sym}
use Rattle.std.specs.Prelude.{◌&&◌, Bool, IsSomeAnd, false, if◌then◌else◌, nat_lt, true}
use Rattle.packet.specs.declared.lax_sliced_packet.LaxSlicedPacket.{LaxSlicedPacket}
use Rattle.packet_filter.specs.Meaning.{Compares, Holds, IsWithin, destination_address, source_address}
use Rattle.packet_filter.specs.Private.Quick.{Asks, HasFront, fits, quick_of, test_in}
use Rattle.packet_filter.specs.declared.address.Address.{Address}
use Rattle.packet_filter.specs.declared.address.Address.TheVariants.{V4, V6}
use Rattle.packet_filter.specs.declared.expression.Direction.TheVariants as direction
use Rattle.packet_filter.specs.declared.expression.Primitive.{Primitive}
use Rattle.packet_filter.specs.declared.expression.Primitive.TheVariants as primitive
use Rattle.packet_filter.specs.declared.expression.Layer.{Layer}
use Rattle.packet_filter.specs.declared.expression.Layer.TheVariants as layer
use Rattle.packet_filter.specs.declared.expression.Quantity.TheVariants.{Length, Load}
use Rattle.packet_filter.specs.declared.expression.Relation.{Relation}
use Rattle.packet_filter.specs.declared.expression.Size.TheVariants.{One}
use Rattle.packet_filter.specs.declared.filter.Step.TheVariants as step
use Rattle.packet_filter.specs.declared.quick.Quick.{Quick}
use Rattle.packet_filter.specs.declared.quick.Quick.TheVariants as quick

-- an address begins with the bits of another if the fronts of both are equal
within_by_front : (a bits : ℕ) (found : Option Address) → IsSomeAnd found (HasFront (32 - bits) (a / 2 ^ (32 - bits))) ↔ IsSomeAnd found (IsWithin (V4 a) bits)
within_by_front a bits None = (λ h. h, λ h. h)
within_by_front a bits (Some (V4 b)) =
    let small : (32 - bits) % 64 ≡ 32 - bits = omega arith in (λ h. sym (rw small at h), λ h. rw small (sym h))
within_by_front a bits (Some (V6 b)) = (λ h. h, λ h. h)

asks_either : (b : Bool) (q : Quick) (p : Primitive) (lax : LaxSlicedPacket) (len : ℕ) → Asks q (step.Test p) lax len ↔ Holds p lax len
    → Asks (if b then q else quick.Other) (step.Test p) lax len ↔ Holds p lax len
asks_either true q p lax len same = same
asks_either false q p lax len same = (λ h. h, λ h. h)

asks_byte : (l : Layer) (place : ℕ) (mask : Option ℕ) (r : Relation) (limit : ℕ) (lax : LaxSlicedPacket) (len : ℕ)
    → Asks (test_in l place mask r limit) (step.Test (primitive.Compare (Load l place One) mask r limit)) lax len
    ↔ Holds (primitive.Compare (Load l place One) mask r limit) lax len
asks_byte (layer.Ip v) place mask r limit lax len = (λ h. h, λ h. h)
asks_byte (layer.Payload v number) place mask r limit lax len = (λ h. h, λ h. h)
asks_byte l place mask r limit lax len = (λ h. h, λ h. h)

pub asks_what_holds : (p : Primitive) (lax : LaxSlicedPacket) (len : ℕ) → Asks (quick_of p) (step.Test p) lax len ↔ Holds p lax len
unfolding quick_of
asks_what_holds (primitive.Net None (Some direction.Source) (V4 a) bits) lax len =
    let w = within_by_front a bits (source_address lax.packet) in (λ h. (tt, w.0 h), λ h. w.1 h.1)
asks_what_holds (primitive.Net None (Some direction.Destination) (V4 a) bits) lax len =
    let w = within_by_front a bits (destination_address lax.packet) in (λ h. (tt, w.0 h), λ h. w.1 h.1)
asks_what_holds (primitive.Net None None (V4 a) bits) lax len =
    let s = within_by_front a bits (source_address lax.packet) in
    let d = within_by_front a bits (destination_address lax.packet) in
    (λ h. (tt, elim h [ inl x ↦ inl (s.0 x) | inr x ↦ inr (d.0 x) ]), λ h. elim h.1 [ inl x ↦ inl (s.1 x) | inr x ↦ inr (d.1 x) ])
asks_what_holds (primitive.Masked None d address mask) lax len = (λ h. (tt, h), λ h. h.1)
asks_what_holds (primitive.Proto None number) lax len = (λ h. h, λ h. h)
asks_what_holds (primitive.Ports t None low high) lax len = (λ h. h, λ h. h)
asks_what_holds (primitive.Compare Length None r limit) lax len = (λ h. (len, refl, h), λ h. subst (λ n. Compares r n limit) h.1 h.2)
asks_what_holds (primitive.Compare (Load l place One) mask r limit) lax len =
    asks_either (fits mask && (nat_lt place 256 && nat_lt limit 256)) (test_in l place mask r limit) _ lax len (asks_byte l place mask r limit lax len)
asks_what_holds p lax len = (λ h. h, λ h. h)
