use Rattle.packet_builder.proofs.TakenApart.{arp_read, icmpv4_read, icmpv6_read, other_device_read, tcp_read, udp_read}
use Rattle.packet_builder.proofs.laws.built_packet_law.Goals as goal

pub returns : goal.returns
returns c = record { udp = udp_read; tcp = tcp_read; icmpv4 = icmpv4_read; icmpv6 = icmpv6_read; arp = arp_read; other_device = other_device_read }
