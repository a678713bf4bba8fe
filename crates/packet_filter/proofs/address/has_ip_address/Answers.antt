use Rattle.std.specs.Prelude.{IsTrue}
use Rattle.packet_filter.proofs.Ends.{same_ends}
use Rattle.packet_filter.specs.Meaning.{IsWithin, ip_destination, ip_source}
use Rattle.packet_filter.proofs.address.has_ip_address.Goals as goal

pub returns-in-Ipv4-V4 : goal.returns-in-Ipv4-V4
returns-in-Ipv4-V4 c =
    let ip = c.args.header.now in
    let source = rw (c.source.ensures.bytes_12_to_15) at c.is_within_ipv4-source.ensures.value in
    let destination = rw (c.destination.ensures.bytes_16_to_19) at c.is_within_ipv4.ensures.value in
    let of = c.of_ends.ensures.value in
    let same = same_ends c.args.direction c.is_within_ipv4-source.result c.is_within_ipv4.result (ip_source ip) (ip_destination ip) (λ b. IsTrue b)
    (IsWithin c.args.address.now c.args.bits) (rw (c.in-Ipv4-V4.is-0, c.in-Ipv4-V4.is-1) source) (rw (c.in-Ipv4-V4.is-0, c.in-Ipv4-V4.is-1) destination) in
    record { value = (λ e. same.0 (of.0 e), λ e. of.1 (same.1 e)) }

pub returns-in-Ipv6-V6 : goal.returns-in-Ipv6-V6
returns-in-Ipv6-V6 c =
    let ip = c.args.header.now in
    let source = rw (c.source-in-Ipv6-V6.ensures.bytes_8_to_23) at c.is_within_ipv6-source.ensures.value in
    let destination = rw (c.destination-in-Ipv6-V6.ensures.bytes_24_to_39) at c.is_within_ipv6.ensures.value in
    let of = c.of_ends-in-Ipv6-V6.ensures.value in
    let same = same_ends c.args.direction c.is_within_ipv6-source.result c.is_within_ipv6.result (ip_source ip) (ip_destination ip) (λ b. IsTrue b)
    (IsWithin c.args.address.now c.args.bits) (rw (c.in-Ipv6-V6.is-0, c.in-Ipv6-V6.is-1) source) (rw (c.in-Ipv6-V6.is-0, c.in-Ipv6-V6.is-1) destination) in
    record { value = (λ e. same.0 (of.0 e), λ e. of.1 (same.1 e)) }
