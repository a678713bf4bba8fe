use Rattle.std.proofs.Common.{subst}
use Rattle.etherparse.specs.declared.net.ipv6_header.Ipv6Header.{Ipv6Header}
use Rattle.etherparse_transport.specs.UdpChecksum.{IsUdpChecksumIpv6}
use Rattle.etherparse_transport.proofs.udp.UdpHeader.with_ipv6_checksum.Goals as goal

pub returns-in-Ok-clause-computed : goal.returns-in-Ok-clause-computed
returns-in-Ok-clause-computed c =
    subst (λ (ip : Ipv6Header). IsUdpChecksumIpv6 ip.source ip.destination c.in-Ok.header
    c.args.payload.now c.checksum_over_ipv6-checksum.result) c.ip_header.view_is
    c.checksum_over_ipv6-checksum.ensures.computed
