-- The layers of a packet: their order, the titles of their errors, and their names.
use Rattle.std.specs.Prelude.{ℕ, List, codes}
use Rattle.etherparse_base.specs.declared.err.layer.Layer.{Layer}
use Rattle.etherparse_base.specs.declared.err.layer.Layer.TheVariants as layer

-- each layer's index in the order of the layers, the title of its errors, and its name in a text
abbrev pub row : Layer → ℕ × List ℕ × List ℕ
row layer.LinuxSllHeader =
    (0, codes "Linux Cooked Capture v1 Error", codes "Linux Cooked Capture v1 header")
row layer.Ethernet2Header = (1, codes "Ethernet 2 Header Error", codes "Ethernet 2 header")
row layer.EtherPayload = (2, codes "Payload with Ether Type Error", codes "Ether type payload")
row layer.VlanHeader = (3, codes "VLAN Header Error", codes "VLAN header")
row layer.MacsecHeader = (4, codes "MACsec Header Error", codes "MACsec header")
row layer.MacsecPacket = (5, codes "MACsec Packet Error", codes "MACsec packet")
row layer.IpHeader = (6, codes "IP Header Error", codes "IP header")
row layer.Ipv4Header = (7, codes "IPv4 Header Error", codes "IPv4 header")
row layer.Ipv4Packet = (8, codes "IPv4 Packet Error", codes "IPv4 packet")
row layer.IpAuthHeader =
    (9, codes "IP Authentication Header Error", codes "IP Authentication header")
row layer.Ipv6Header = (10, codes "IPv6 Header Error", codes "IPv6 header")
row layer.Ipv6Packet = (11, codes "IPv6 Packet Error", codes "IPv6 packet")
row layer.Ipv6ExtHeader = (12, codes "IPv6 Extension Header Error", codes "IPv6 extension header")
row layer.Ipv6HopByHopHeader =
    (13, codes "IPv6 Hop-by-Hop Option Header Error", codes "IPv6 hop-by-hop option header")
row layer.Ipv6DestOptionsHeader =
    (14, codes "IPv6 Destination Options Header Error", codes "IPv6 destination options header")
row layer.Ipv6RouteHeader = (15, codes "IPv6 Routing Header Error", codes "IPv6 routing header")
row layer.Ipv6FragHeader = (16, codes "IPv6 Fragment Header Error", codes "IPv6 fragment header")
row layer.UdpHeader = (17, codes "UDP Header Error", codes "UDP header")
row layer.UdpPayload = (18, codes "UDP Payload Error", codes "UDP payload")
row layer.TcpHeader = (19, codes "TCP Header Error", codes "TCP header")
row layer.Icmpv4 = (20, codes "ICMP Packet Error", codes "ICMP packet")
row layer.Icmpv4Timestamp = (21, codes "ICMP Timestamp Error", codes "ICMP timestamp message")
row layer.Icmpv4TimestampReply =
    (22, codes "ICMP Timestamp Reply Error", codes "ICMP timestamp reply message")
row layer.Icmpv6 = (23, codes "ICMPv6 Packet Error", codes "ICMPv6 packet")
row layer.Arp = (
  24,
  codes "Address Resolution Protocol Packet Error",
  codes "Address Resolution Protocol packet",
)

-- the columns of the table
abbrev pub layer_index : Layer → ℕ
layer_index l = (row l).0

abbrev pub layer_title : Layer → List ℕ
layer_title l = (row l).1

abbrev pub layer_text : Layer → List ℕ
layer_text l = (row l).2
