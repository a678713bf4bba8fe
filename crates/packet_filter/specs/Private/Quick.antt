-- Tests in which all that the packet does not say is computed before.
use Rattle.std.specs.Prelude.{ℕ, ◌≡◌, ◌-◌, ◌/◌, ◌%◌, ◌^◌, ◌≤◌, ◌⊎◌, IsSomeAnd, None, Option, Some}
use Rattle.std.specs.Prelude.{◌+◌, ◌&&◌, Bool, if◌then◌else◌, nat_lt, slice_range, true}
use Rattle.std.specs.Int.{from_be_bytes, w32}
use Rattle.packet.specs.declared.lax_sliced_packet.LaxSlicedPacket.{LaxSlicedPacket}
use Rattle.packet.specs.declared.sliced_packet.SlicedPacket.{SlicedPacket}
use Rattle.packet_parts.specs.declared.ip_slice.IpHeaderSlice.{IpHeaderSlice}
use Rattle.packet_parts.specs.declared.ip_slice.IpHeaderSlice.TheVariants as header
use Rattle.packet_filter.specs.Meaning.{Compares, HasPorts, HasProto, Holds, IsIp, IsWithinMask}
use Rattle.packet_filter.specs.Meaning.{OfEnds, Tells, destination_address, masked, source_address}
use Rattle.packet_filter.specs.declared.address.Address.{Address}
use Rattle.packet_filter.specs.declared.address.Address.TheVariants.{V4, V6}
use Rattle.packet_filter.specs.declared.expression.Direction.TheVariants as direction
use Rattle.packet_filter.specs.declared.expression.Primitive.{Primitive}
use Rattle.packet_filter.specs.declared.expression.Primitive.TheVariants as primitive
use Rattle.packet_filter.specs.declared.expression.Layer.{Layer}
use Rattle.packet_filter.specs.declared.expression.Layer.TheVariants as layer
use Rattle.packet_filter.specs.declared.expression.Quantity.{Quantity}
use Rattle.packet_filter.specs.declared.expression.Quantity.TheVariants.{Length, Load}
use Rattle.packet_filter.specs.declared.expression.Relation.{Relation}
use Rattle.packet_filter.specs.declared.expression.Size.TheVariants.{One}
use Rattle.packet_filter.specs.declared.filter.Step.{Step}
use Rattle.packet_filter.specs.declared.filter.Step.TheVariants as step
use Rattle.packet_filter.specs.declared.quick.Quick.{Quick}
use Rattle.packet_filter.specs.declared.quick.Quick.TheVariants as quick

-- the packet tells a number, of which the bits of the mask are in this relation to another
abbrev pub IsNumber : Quantity → Option ℕ → Relation → ℕ → SlicedPacket → ℕ → Type 0
IsNumber quantity mask relation limit packet len =
    (n : ℕ) × Tells quantity packet len n × Compares relation (masked mask n) limit

-- the mask has no more than the bits of a byte
abbrev pub fits : Option ℕ → Bool
fits None = true
fits (Some mask) = nat_lt mask 256

-- the test of a byte of a layer
abbrev pub test_in : Layer → ℕ → Option ℕ → Relation → ℕ → Quick
test_in (layer.Ip v) place mask relation limit = quick.IpByte v place mask relation limit
test_in (layer.Payload v number) place mask relation limit =
    quick.PayloadByte v number place mask relation limit
test_in l place mask relation limit = quick.Other

-- the same, if all its numbers are bytes
abbrev pub byte_test : Layer → ℕ → Option ℕ → Relation → ℕ → Quick
byte_test l place mask relation limit =
    if fits mask && (nat_lt place 256 && nat_lt limit 256)
    then test_in l place mask relation limit else quick.Other

-- the test that a primitive is
unfoldable pub quick_of : Primitive → Quick
quick_of (primitive.Version v) = quick.Version v
quick_of (primitive.Proto None number) = quick.Proto number
quick_of (primitive.Ports t None low high) = quick.Ports t low high
quick_of (primitive.Net None (Some direction.Source) (V4 a) bits) =
    quick.Source (32 - bits) (a / 2 ^ (32 - bits))
quick_of (primitive.Net None (Some direction.Destination) (V4 a) bits) =
    quick.Destination (32 - bits) (a / 2 ^ (32 - bits))
quick_of (primitive.Net None None (V4 a) bits) = quick.Host (32 - bits) (a / 2 ^ (32 - bits))
quick_of (primitive.Masked None d address mask) = quick.Masked d address mask
quick_of (primitive.Compare Length None relation limit) = quick.Length relation limit
quick_of (primitive.Compare (Load l place One) mask relation limit) =
    byte_test l place mask relation limit
quick_of p = quick.Other

-- and a step
abbrev pub quick_of_step : Step → Quick
quick_of_step (step.Test p) = quick_of p
quick_of_step s = quick.Other

-- An IPv4 address without so many of its last bits is this number. A shift is by 63 at most.
abbrev pub HasFront : ℕ → ℕ → Address → Type 0
HasFront others front (V4 a) = a / 2 ^ (others % 64) ≡ front
HasFront others front (V6 a) = ⊥

-- the same of the address at a place in a header of IPv4
abbrev pub HasFrontInIpv4 : ℕ → ℕ → ℕ → IpHeaderSlice → Type 0
HasFrontInIpv4 others front place (header.Ipv4 view) =
    HasFront others front (V4 (from_be_bytes w32 (slice_range view.slice.now place (place + 4))))
HasFrontInIpv4 others front place (header.Ipv6 view) = ⊥

-- what a test asks of a packet; any other is that of the step
abbrev pub Asks : Quick → Step → LaxSlicedPacket → ℕ → Type 0
Asks (quick.Version v) s lax len = IsIp v lax.packet
Asks (quick.Proto number) s lax len = HasProto None number lax.packet
Asks (quick.Ports t low high) s lax len =
    IsSomeAnd lax.packet.net (HasPorts t None (λ port. (low ≤ port) × (port ≤ high)))
Asks (quick.Source others front) s lax len =
    IsSomeAnd (source_address lax.packet) (HasFront others front)
Asks (quick.Destination others front) s lax len =
    IsSomeAnd (destination_address lax.packet) (HasFront others front)
Asks (quick.Host others front) s lax len =
    IsSomeAnd (source_address lax.packet) (HasFront others front)
    ⊎ IsSomeAnd (destination_address lax.packet) (HasFront others front)
Asks (quick.Masked d address mask) s lax len =
    OfEnds d (source_address lax.packet) (destination_address lax.packet)
    (λ found. IsSomeAnd found (IsWithinMask address mask))
Asks (quick.Length relation limit) s lax len = Compares relation len limit
Asks (quick.IpByte v place mask relation limit) s lax len =
    IsNumber (Load (layer.Ip v) place One) mask relation limit lax.packet len
Asks (quick.PayloadByte v number place mask relation limit) s lax len =
    IsNumber (Load (layer.Payload v number) place One) mask relation limit lax.packet len
Asks quick.Other (step.Test p) lax len = Holds p lax len
Asks quick.Other s lax len = ⊥
