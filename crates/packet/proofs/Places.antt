-- Places in a packet are within it.
use Rattle.std.proofs.Common.{ℕ, ◌+◌, ◌≤◌, List, length, ap, arith, inl, inr, length-append}
use Rattle.std.proofs.lemmas.Grind.{common_steps}
use Rattle.etherparse.specs.declared.net.ipv4_header.Ipv4Header.{Ipv4Header}
use Rattle.etherparse.specs.declared.net.ipv6_header.Ipv6Header.{Ipv6Header}
use Rattle.etherparse.specs.declared.err.ipv4.HeaderSliceError.TheVariants as ipv4
use Rattle.etherparse.specs.declared.err.ipv6.HeaderSliceError.TheVariants as ipv6
use Rattle.packet_parts.specs.IpSlice.{HasIpParts, HasPartsWith, RefusesIp, header_bytes, header_len_of, ipv4_bytes, ipv6_bytes, ipv6_trimmed}
use Rattle.packet_parts.specs.declared.ip_slice.IpHeaderSlice.{IpHeaderSlice}
use Rattle.packet_parts.specs.declared.ip_slice.IpHeaderSlice.TheVariants as header
use Rattle.packet_parts.specs.declared.ip_slice.IpSlice.{IpSlice}
use Rattle.packet_parts.specs.declared.ip_slice.IpSliceError.{IpSliceError}
use Rattle.packet_parts.specs.declared.ip_slice.IpSliceError.TheVariants as error
use Rattle.packet.specs.Error.{ip_error_place}

ipv4_bytes-le : (header : Ipv4Header) (s : List ℕ) → length (ipv4_bytes header s) ≤ length s
ipv4_bytes-le header s = grind (arith, common_steps)

ipv6_bytes-le : (header : Ipv6Header) (s : List ℕ) → length (ipv6_bytes header s) ≤ length s
ipv6_bytes-le header s = grind (arith, common_steps)

-- the payload is in the packet
within : (packet : List ℕ) (slice : IpSlice) (h : IpHeaderSlice) → HasPartsWith h packet slice → length (header_bytes h) + length slice.extensions.now ≤ length packet
within packet slice (header.Ipv4 view) p =
    omega (arith, ipv4_bytes-le p.header packet, ap length p.begins.whole, ap length p.view, ap length p.no_extensions, length-append {A = ℕ})
within packet slice (header.Ipv6 view) p =
    omega (arith, ipv6_bytes-le p.header packet, ap length p.begins.whole, ap length p.view, ap length p.parts, length-append {A = ℕ})

pub header_within : (packet : List ℕ) (slice : IpSlice) → HasIpParts packet slice → header_len_of slice ≤ length packet
header_within packet slice p = within packet slice slice.header p

-- what stops a reader is in the packet
pub error_within : (packet : List ℕ) (e : IpSliceError) → RefusesIp packet e → ip_error_place e ≤ length packet
error_within packet (error.Empty e) r = omega (arith, ap (λ x. x.layer_start_offset) r.1)
error_within packet (error.UnexpectedVersion version) r = omega arith
error_within packet (error.Ipv4Header (ipv4.Len e)) (some, version, inl r) = omega (arith, ap (λ x. x.layer_start_offset) r.error)
error_within packet (error.Ipv4Header (ipv4.Len e)) (some, version, inr r) = omega (arith, ap (λ x. x.layer_start_offset) r.2.error)
error_within packet (error.Ipv4Header (ipv4.Content e)) r = omega arith
error_within packet (error.Ipv6Header (ipv6.Len e)) r = omega (arith, ap (λ x. x.layer_start_offset) r.2.error)
error_within packet (error.Ipv6Header (ipv6.Content e)) r = omega arith
error_within packet (error.Packet e) (inl r) = grind (arith, common_steps)
error_within packet (error.Packet e) (inr (inl r)) = omega (arith, ap (λ x. x.layer_start_offset) r.error)
error_within packet (error.Packet e) (inr (inr r)) = omega (arith, ap (λ x. x.layer_start_offset) r.error)
error_within packet (error.Extensions e) r =
    let enough : length (ipv6_trimmed r.header packet) ≤ length packet = grind (arith, common_steps) in
    omega (arith, enough, ap length r.begins.whole, length-append {A = ℕ}, r.begins.layout.len, ap (λ x. x.layer_start_offset) r.moved, ap (λ x. x.layer_start_offset) r.ends.1)
