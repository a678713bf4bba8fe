use Rattle.std.proofs.Common.{refl}
use Rattle.std.proofs.lemmas.Result.{IfOk-at_ok}
use Rattle.packet_builder.proofs.tcp_step.header_over.Goals as goal

pub returns-in-Ipv4 : goal.returns-in-Ipv4
returns-in-Ipv4 c =
    let goes = rw c.as_slice.ensures.value at c.final_destination_ipv4-last.ensures.goes_to in
    let computed = IfOk-at_ok _ c.unwrap-checksum.ensures c.calc_checksum_ipv4_raw.ensures.computed in
    record { made = rw (c.in-Ipv4.is) (record { fields = refl; checksum = (c.final_destination_ipv4-last.result, goes, computed) }) }

pub returns-in-Ipv6 : goal.returns-in-Ipv6
returns-in-Ipv6 c = record { made = rw (c.in-Ipv6.is) (record { fields = refl; checksum = IfOk-at_ok _ c.unwrap-checksum-in-Ipv6.ensures c.calc_checksum_ipv6.ensures.computed }) }
