-- A packet that is built: the bytes of its headers, one after the other, and its payload.
use Rattle.std.specs.Prelude.{ℕ, ◌≡◌, ◌+◌, ◌*◌, ◌≤◌, ◌<◌, List, [], ◌++◌, length}
use Rattle.std.specs.Prelude.{Option, None, Some}
use Rattle.etherparse.specs.HeaderChecksum.{header_checksum_of}
use Rattle.etherparse.specs.Ipv4Header.{IsIpv4LayoutWith, ipv4_header_len, ipv4_max_payload_len}
use Rattle.etherparse.specs.Ipv6Header.{IsIpv6Layout}
use Rattle.etherparse.specs.declared.err.ValueType.{ValueType}
use Rattle.etherparse.specs.declared.err.ValueType.TheVariants.{Ipv4PayloadLength}
use Rattle.etherparse.specs.declared.err.ValueType.TheVariants.{Ipv6PayloadLength}
use Rattle.etherparse.specs.declared.net.ipv4_header.Ipv4Header.{Ipv4Header}
use Rattle.etherparse_icmp.specs.Icmpv4.{IsIcmpv4Written}
use Rattle.etherparse_icmp.specs.Icmpv4Checksum.{IsIcmpv4Checksum}
use Rattle.etherparse_icmp.specs.Icmpv6.{IsIcmpv6Written}
use Rattle.etherparse_icmp.specs.Icmpv6Checksum.{IsIcmpv6Checksum}
use Rattle.etherparse_icmp.specs.declared.icmpv4_type.Icmpv4Type.{Icmpv4Type}
use Rattle.etherparse_icmp.specs.declared.icmpv6_type.Icmpv6Type.{Icmpv6Type}
use Rattle.etherparse_link.specs.ArpPacket.{IsArpLayout, sender_hw_addr_of}
use Rattle.etherparse_link.specs.ArpPacket.{sender_protocol_addr_of}
use Rattle.etherparse_link.specs.Ethernet2Header.{IsEthernet2Layout}
use Rattle.etherparse_link.specs.LinuxSllHeader.{IsLinuxSllLayout}
use Rattle.etherparse_link.specs.SingleVlanHeader.{IsSingleVlanLayout}
use Rattle.etherparse_link.specs.declared.arp_packet.ArpPacket.{ArpPacket}
use Rattle.etherparse_link.specs.declared.single_vlan_header.SingleVlanHeader.{SingleVlanHeader}
use Rattle.etherparse_transport.specs.TcpChecksum.{IsTcpChecksumIpv4, IsTcpChecksumIpv6}
use Rattle.etherparse_transport.specs.TcpHeader.{IsTcpLayoutWith}
use Rattle.etherparse_transport.specs.Udp.{IsUdpLayout}
use Rattle.etherparse_transport.specs.UdpChecksum.{IsUdpChecksumIpv4, IsUdpChecksumIpv6}
use Rattle.etherparse_transport.specs.UdpChecksum.{udp_header_for}
use Rattle.etherparse_transport.specs.declared.tcp_header.TcpHeader.{TcpHeader}
use Rattle.etherparse_transport.specs.declared.udp.UdpHeader.{UdpHeader}
use Rattle.packet_parts.specs.FinalDestination.{GoesToIpv4}
use Rattle.packet_builder.specs.declared.arp_step.ArpStep.{ArpStep}
use Rattle.packet_builder.specs.declared.build_slice_write_error.BuildSliceWriteError as error
use Rattle.packet_builder.specs.declared.build_slice_write_error.BuildSliceWriteError.TheVariants
    as why
use Rattle.packet_builder.specs.declared.headers.Headers.{Headers}
use Rattle.packet_builder.specs.declared.headers.IpHeader.{IpHeader}
use Rattle.packet_builder.specs.declared.headers.IpHeader.TheVariants as ip
use Rattle.packet_builder.specs.declared.headers.LinkHeader.{LinkHeader}
use Rattle.packet_builder.specs.declared.headers.LinkHeader.TheVariants as link
use Rattle.packet_builder.specs.declared.headers.VlanHeader.{VlanHeader}
use Rattle.packet_builder.specs.declared.headers.VlanHeader.TheVariants as vlan

-- ---- the link header and the tags

-- the EtherType of an IP packet (RFC 894, RFC 2464 section 3)
abbrev pub ether_type_of : IpHeader → ℕ
ether_type_of (ip.Ipv4 header) = 0x0800
ether_type_of (ip.Ipv6 header) = 0x86dd

-- The EtherType that the link header has: that of the packet, or that of its first tag, which is
-- the tag of a customer's VLAN, or before such a one that of a service's (IEEE 802.1Q section 9.5).
abbrev pub first_ether_type : Option VlanHeader → ℕ → ℕ
first_ether_type None ether_type = ether_type
first_ether_type (Some (vlan.Single tag)) ether_type = 0x8100
first_ether_type (Some (vlan.Double outer inner)) ether_type = 0x88a8

-- the bytes of a link header that has this EtherType
abbrev pub IsLink : Option LinkHeader → ℕ → List ℕ → Type 0
IsLink None ether_type bytes = bytes ≡ []
IsLink (Some (link.Ethernet2 header)) ether_type bytes =
    IsEthernet2Layout (record header { ether_type = ether_type }) bytes
IsLink (Some (link.LinuxSll header)) ether_type bytes =
    IsLinuxSllLayout (record header { protocol_type = ether_type }) bytes

-- the bytes of a tag before what has this EtherType
abbrev pub IsTag : SingleVlanHeader → ℕ → List ℕ → Type 0
IsTag tag ether_type bytes = IsSingleVlanLayout (record tag { ether_type = ether_type }) bytes

-- the bytes of two tags: the first stands before a tag of a customer's VLAN
pub record AreTwoTags (outer inner : SingleVlanHeader) (ether_type : ℕ) (bytes : List ℕ)
    : Type 0 where
  pub first : List ℕ
  pub second : List ℕ
  pub is_outer : IsTag outer 0x8100 first
  pub is_inner : IsTag inner ether_type second
  pub both : bytes ≡ first ++ second

-- the bytes of all tags
abbrev pub AreTags : Option VlanHeader → ℕ → List ℕ → Type 0
AreTags None ether_type bytes = bytes ≡ []
AreTags (Some (vlan.Single tag)) ether_type bytes = IsTag tag ether_type bytes
AreTags (Some (vlan.Double outer inner)) ether_type bytes =
    AreTwoTags outer inner ether_type bytes

-- the bytes of a link header and of the tags after it, before what has this EtherType
pub record AreLinkHeaders (link : Option LinkHeader) (vlan : Option VlanHeader) (ether_type : ℕ)
    (bytes : List ℕ) : Type 0 where
  pub first : List ℕ
  pub tags : List ℕ
  pub is_link : IsLink link (first_ether_type vlan ether_type) first
  pub are_tags : AreTags vlan ether_type tags
  pub both : bytes ≡ first ++ tags

-- ---- the IP header

-- an IPv4 header before this many bytes of a protocol, with the checksum that it should have
pub record IsIpv4Before (header : Ipv4Header) (protocol len : ℕ) (made : Ipv4Header)
    : Type 0 where
  pub fields : made ≡ record header {
    total_len = ipv4_header_len header + len;
    protocol = protocol;
    header_checksum = made.header_checksum;
  }
  pub checksum : (bytes : List ℕ) → IsIpv4LayoutWith made 0 bytes
      → made.header_checksum ≡ header_checksum_of bytes

-- an IP header before this many bytes of a protocol: all else is as in the header that is given
abbrev pub IsIpBefore : IpHeader → ℕ → ℕ → IpHeader → Type 0
IsIpBefore (ip.Ipv4 header) protocol len (ip.Ipv4 made) = IsIpv4Before header protocol len made
IsIpBefore (ip.Ipv6 header) protocol len (ip.Ipv6 made) =
    made ≡ record header { payload_length = len; next_header = protocol }
IsIpBefore (ip.Ipv4 header) protocol len (ip.Ipv6 made) = ⊥
IsIpBefore (ip.Ipv6 header) protocol len (ip.Ipv4 made) = ⊥

-- the bytes of an IP header
abbrev pub IsIp : IpHeader → List ℕ → Type 0
IsIp (ip.Ipv4 header) bytes = IsIpv4LayoutWith header 0 bytes
IsIp (ip.Ipv6 header) bytes = IsIpv6Layout header bytes

-- ---- a packet

-- the packet is the bytes of these headers, and after them these bytes
pub record BeginsWithHeaders (headers : Headers) (upper packet : List ℕ) : Type 0 where
  pub link : List ℕ
  pub tags : List ℕ
  pub ip : List ℕ
  pub is_link :
      IsLink headers.link (first_ether_type headers.vlan (ether_type_of headers.ip)) link
  pub are_tags : AreTags headers.vlan (ether_type_of headers.ip) tags
  pub is_ip : IsIp headers.ip ip
  pub whole : packet ≡ link ++ (tags ++ (ip ++ upper))

-- the packet is the bytes of these headers, with the IP header made for what comes after it: these
-- bytes of a protocol
pub record HasHeaders (headers : Headers) (protocol : ℕ) (upper packet : List ℕ) : Type 0 where
  pub ip : IpHeader
  pub is_ip : IsIpBefore headers.ip protocol (length upper) ip
  pub begins : BeginsWithHeaders (record headers { ip = ip }) upper packet

-- the bytes with which a packet begins that has these headers and so many bytes of a protocol
abbrev pub AreHeadersBefore : Headers → ℕ → ℕ → List ℕ → Type 0
AreHeadersBefore headers protocol len bytes = (upper : List ℕ) → length upper ≡ len
    → HasHeaders headers protocol upper (bytes ++ upper)

-- the checksum of a UDP header and a payload between the source of an IP header and the final
-- destination, which the options of an IPv4 header can name
abbrev pub IsUdpChecksumOver : IpHeader → UdpHeader → List ℕ → ℕ → Type 0
IsUdpChecksumOver (ip.Ipv4 header) udp payload checksum = (final : List ℕ)
    × GoesToIpv4 header.destination header.options final
    × IsUdpChecksumIpv4 header.source final udp payload checksum
IsUdpChecksumOver (ip.Ipv6 header) udp payload checksum =
    IsUdpChecksumIpv6 header.source header.destination udp payload checksum

-- the same of TCP
abbrev pub IsTcpChecksumOver : IpHeader → TcpHeader → List ℕ → ℕ → Type 0
IsTcpChecksumOver (ip.Ipv4 header) tcp payload checksum = (final : List ℕ)
    × GoesToIpv4 header.destination header.options final
    × IsTcpChecksumIpv4 header.source final tcp payload checksum
IsTcpChecksumOver (ip.Ipv6 header) tcp payload checksum =
    IsTcpChecksumIpv6 header.source header.destination tcp payload checksum

-- a UDP header between these ports, over an IP header and before a payload: its length counts both,
-- and its checksum is the one that it should have
pub record IsUdpBefore (over : IpHeader) (source_port destination_port : ℕ) (payload : List ℕ)
    (made : UdpHeader) : Type 0 where
  pub fields : made ≡ record (udp_header_for source_port destination_port (length payload)) {
    checksum = made.checksum;
  }
  pub checksum : IsUdpChecksumOver over made payload made.checksum

-- a TCP header over an IP header and before a payload: only its checksum is set
pub record IsTcpBefore (over : IpHeader) (header : TcpHeader) (payload : List ℕ)
    (made : TcpHeader) : Type 0 where
  pub fields : made ≡ record header { checksum = made.checksum }
  pub checksum : IsTcpChecksumOver over made payload made.checksum

-- the packet is these headers, a UDP header between these ports, and the payload
pub record IsUdpPacket (headers : Headers) (source_port destination_port : ℕ)
    (payload packet : List ℕ) : Type 0 where
  pub udp : UdpHeader
  pub bytes : List ℕ
  pub is_udp : IsUdpBefore headers.ip source_port destination_port payload udp
  pub layout : IsUdpLayout udp bytes
  pub has_headers : HasHeaders headers 17 (bytes ++ payload) packet

-- the packet is these headers, a TCP header, and the payload
pub record IsTcpPacket (headers : Headers) (header : TcpHeader) (payload packet : List ℕ)
    : Type 0 where
  pub tcp : TcpHeader
  pub bytes : List ℕ
  pub is_tcp : IsTcpBefore headers.ip header payload tcp
  pub layout : IsTcpLayoutWith tcp 0 bytes
  pub has_headers : HasHeaders headers 6 (bytes ++ payload) packet

-- the packet is these headers, the header of a message of ICMP of this type, and the payload
pub record IsIcmpv4Packet (headers : Headers) (icmp_type : Icmpv4Type)
    (payload packet : List ℕ) : Type 0 where
  pub checksum : ℕ
  pub bytes : List ℕ
  pub is_checksum : IsIcmpv4Checksum icmp_type payload checksum
  pub written : IsIcmpv4Written icmp_type checksum bytes
  pub has_headers : HasHeaders headers 1 (bytes ++ payload) packet

-- the checksum of a message of ICMPv6 between the addresses of an IPv6 header; over IPv4, which has
-- another pseudo-header, there is none
abbrev pub IsIcmpv6ChecksumOver : IpHeader → Icmpv6Type → List ℕ → ℕ → Type 0
IsIcmpv6ChecksumOver (ip.Ipv4 header) icmp_type payload checksum = ⊥
IsIcmpv6ChecksumOver (ip.Ipv6 header) icmp_type payload checksum =
    IsIcmpv6Checksum header.source header.destination icmp_type payload checksum

-- the packet is these headers, the header of a message of ICMPv6 of this type, and the payload
pub record IsIcmpv6Packet (headers : Headers) (icmp_type : Icmpv6Type)
    (payload packet : List ℕ) : Type 0 where
  pub checksum : ℕ
  pub bytes : List ℕ
  pub is_checksum : IsIcmpv6ChecksumOver headers.ip icmp_type payload checksum
  pub written : IsIcmpv6Written icmp_type checksum bytes
  pub has_headers : HasHeaders headers 58 (bytes ++ payload) packet

-- the packet is a link header, tags if there are any, and an ARP packet, whose EtherType is that of
-- RFC 826
pub record IsArpFrame (step : ArpStep) (packet : List ℕ) : Type 0 where
  pub before : List ℕ
  pub arp : List ℕ
  pub are_before : AreLinkHeaders (Some step.link) step.vlan 0x0806 before
  pub is_arp : IsArpLayout step.arp arp
  pub whole : packet ≡ before ++ arp

-- ---- lengths and refusals

-- the lengths of the headers, in bytes
abbrev pub link_len : Option LinkHeader → ℕ
link_len None = 0
link_len (Some (link.Ethernet2 header)) = 14
link_len (Some (link.LinuxSll header)) = 16

abbrev pub tags_len : Option VlanHeader → ℕ
tags_len None = 0
tags_len (Some (vlan.Single tag)) = 4
tags_len (Some (vlan.Double outer inner)) = 8

-- the lengths of a frame with an ARP packet: 8 bytes, and two addresses of each kind
abbrev pub arp_len : ArpPacket → ℕ
arp_len arp = 8 + 2 * length (sender_hw_addr_of arp) + 2 * length (sender_protocol_addr_of arp)

abbrev pub arp_frame_len : ArpStep → ℕ
arp_frame_len step = link_len (Some step.link) + tags_len step.vlan + arp_len step.arp

abbrev pub ip_len : IpHeader → ℕ
ip_len (ip.Ipv4 header) = ipv4_header_len header
ip_len (ip.Ipv6 header) = 40

abbrev pub headers_len : Headers → ℕ
headers_len headers = link_len headers.link + tags_len headers.vlan + ip_len headers.ip

-- how many bytes can follow an IP header, which counts them in 16 bits; that of IPv4 counts its own
-- too
abbrev pub max_len_after : IpHeader → ℕ
max_len_after (ip.Ipv4 header) = ipv4_max_payload_len header
max_len_after (ip.Ipv6 header) = 65535

-- the name of that length
abbrev pub len_type : IpHeader → ValueType
len_type (ip.Ipv4 header) = Ipv4PayloadLength
len_type (ip.Ipv6 header) = Ipv6PayloadLength

-- a packet with this many bytes after its IP header can be written in this room: the IP header can
-- count them, and the packet has no more bytes than the room
abbrev pub FitsInto : Headers → ℕ → ℕ → Type 0
FitsInto headers len room =
    (len ≤ max_len_after headers.ip) × (headers_len headers + len ≤ room)

-- why a packet with this many bytes after its IP header is not written in this room: the IP header
-- cannot count them; or else the packet has more bytes than the room
abbrev pub RefusesToWrite : Headers → ℕ → ℕ → error.BuildSliceWriteError → Type 0
RefusesToWrite headers len room (why.PayloadLen e) = (max_len_after headers.ip < len)
    × (e ≡ record {
      actual = len;
      max_allowed = max_len_after headers.ip;
      value_type = len_type headers.ip;
    })
RefusesToWrite headers len room (why.Space required_len) = (len ≤ max_len_after headers.ip)
    × (room < required_len) × (required_len ≡ headers_len headers + len)
RefusesToWrite headers len room why.Icmpv6InIpv4 = ⊥

-- which version an IP header is of
abbrev pub IsIpv4 : IpHeader → Type 0
IsIpv4 (ip.Ipv4 header) = Unit {0}
IsIpv4 (ip.Ipv6 header) = ⊥

abbrev pub IsIpv6 : IpHeader → Type 0
IsIpv6 (ip.Ipv4 header) = ⊥
IsIpv6 (ip.Ipv6 header) = Unit {0}

-- why a message of ICMPv6 is not: it would follow an IPv4 header; or else for the same reasons
abbrev pub RefusesIcmpv6 : Headers → ℕ → ℕ → error.BuildSliceWriteError → Type 0
RefusesIcmpv6 headers len room why.Icmpv6InIpv4 = IsIpv4 headers.ip
RefusesIcmpv6 headers len room (why.PayloadLen e) =
    IsIpv6 headers.ip × RefusesToWrite headers len room (why.PayloadLen e)
RefusesIcmpv6 headers len room (why.Space required_len) =
    IsIpv6 headers.ip × RefusesToWrite headers len room (why.Space required_len)
