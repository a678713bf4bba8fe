use Rattle.std.proofs.Common.{sym}
use Rattle.packet_parts.proofs.ip_slice.IpSlice.verdict.Goals as goal

pub returns-in-None-Ipv6 : goal.returns-in-None-Ipv6
returns-in-None-Ipv6 c =
    let comes = rw (c.source-in-None-Ipv6.ensures.bytes_8_to_23, c.next_header-first.ensures.byte_6) at c.original_source_ipv6-original.ensures.comes_from in
    let goes = rw (c.destination-in-None-Ipv6.ensures.bytes_24_to_39, c.next_header-first.ensures.byte_6) at c.final_destination_ipv6-last.ensures.goes_to in
    record { judges = rw (c.in-None-Ipv6.is-0, c.in-None-Ipv6.is-1) (c.original_source_ipv6-original.result, c.final_destination_ipv6-last.result, comes, goes, c.verdict_between.ensures.judges) }

pub returns-in-None-Ipv4 : goal.returns-in-None-Ipv4
returns-in-None-Ipv4 c =
    let goes = rw (c.destination.ensures.bytes_16_to_19, c.options.ensures.from_byte_20) at c.final_destination_ipv4-last.ensures.goes_to in
    record { judges = rw (c.in-None-Ipv4.is-0, c.in-None-Ipv4.is-1) (c.final_destination_ipv4-last.result, goes, rw (sym c.source.ensures.bytes_12_to_15) c.ipv4_verdict.ensures.judges) }
