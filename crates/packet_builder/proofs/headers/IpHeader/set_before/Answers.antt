use Rattle.std.proofs.Common.{refl}
use Rattle.packet_builder.proofs.headers.IpHeader.set_before.Goals as goal

pub returns-in-Ipv4 : goal.returns-in-Ipv4
returns-in-Ipv4 c =
    let checksum = c.calc_header_checksum-header in
    record { made = rw (c.in-Ipv4.is) (record { fields = rw (c.header_len.ensures.value) refl; checksum = checksum.ensures.whatever_is_stored checksum.result }) }
