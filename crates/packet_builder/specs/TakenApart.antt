-- A packet that was built, taken apart.
use Rattle.std.specs.Prelude.{ℕ, ◌≡◌, Bool, List, [], ◌∷◌, ◌++◌, drop, false, take, true}
use Rattle.std.specs.Prelude.{IsSomeAnd, Option, None, Some}
use Rattle.std.specs.Option.{is_some}
use Rattle.etherparse_icmp.specs.Icmpv4.{icmpv4_code_number, icmpv4_type_number}
use Rattle.etherparse_icmp.specs.Icmpv6.{icmpv6_code_number, icmpv6_type_number}
use Rattle.etherparse_icmp.specs.declared.icmpv4_type.Icmpv4Type.{Icmpv4Type}
use Rattle.etherparse_icmp.specs.declared.icmpv6_type.Icmpv6Type.{Icmpv6Type}
use Rattle.packet.specs.Link.{LinkParts, Ethernet2Parts, LinuxSllParts, cooked_ether_type}
use Rattle.packet.specs.SlicedPacket.{Layers, layers_of}
use Rattle.packet.specs.Transport.{TransportParts, Icmpv4Parts, Icmpv6Parts}
use Rattle.packet.specs.Transport.{TcpParts, UdpParts}
use Rattle.packet.specs.declared.link.LinkType.{LinkType}
use Rattle.packet.specs.declared.link.LinkType.TheVariants.{Ethernet2, Ip, LinuxSll}
use Rattle.packet.specs.declared.sliced_packet.SlicedPacket.{SlicedPacket}
use Rattle.packet.specs.declared.transport.IcmpHeader.{IcmpHeader}
use Rattle.packet_builder.specs.BuiltPacket.{HasHeaders, IsArpFrame, IsIcmpv4Packet}
use Rattle.packet_builder.specs.BuiltPacket.{IsIcmpv6Packet, IsTcpPacket, IsUdpPacket}
use Rattle.packet_builder.specs.BuiltPacket.{ether_type_of}
use Rattle.packet_builder.specs.declared.arp_step.ArpStep.{ArpStep}
use Rattle.packet_builder.specs.declared.headers.Headers.{Headers}
use Rattle.packet_builder.specs.declared.headers.IpHeader.{IpHeader}
use Rattle.packet_builder.specs.declared.headers.IpHeader.TheVariants as ip
use Rattle.packet_builder.specs.declared.headers.LinkHeader.{LinkHeader}
use Rattle.packet_builder.specs.declared.headers.LinkHeader.TheVariants as link
use Rattle.packet_builder.specs.declared.headers.VlanHeader.{VlanHeader}
use Rattle.packet_builder.specs.declared.headers.VlanHeader.TheVariants as vlan
use Rattle.packet_parts.specs.Checksum.{IsVerdict}
use Rattle.packet_parts.specs.IpSlice.{IpHeaderParts, Ipv4Bytes, Ipv6Bytes}
use Rattle.packet_parts.specs.declared.checksum.Verdict.TheVariants.{Right}
use Rattle.etherparse_transport.specs.declared.tcp_header.TcpHeader.{TcpHeader}

-- the link type of frames that begin with such a link header
abbrev pub link_type_for : Option LinkHeader → LinkType
link_type_for None = Ip
link_type_for (Some (link.Ethernet2 header)) = Ethernet2
link_type_for (Some (link.LinuxSll header)) = LinuxSll

-- the link header that such bytes are
abbrev pub link_parts_for : Option LinkHeader → List ℕ → Option LinkParts
link_parts_for None bytes = None
link_parts_for (Some (link.Ethernet2 header)) bytes = Some (Ethernet2Parts bytes)
link_parts_for (Some (link.LinuxSll header)) bytes = Some (LinuxSllParts bytes)

-- the EtherType of the packet, which stands before it if there is a link header
abbrev pub ether_type_for : Option LinkHeader → IpHeader → Option ℕ
ether_type_for None ip = None
ether_type_for (Some link) ip = Some (ether_type_of ip)

-- the bytes of each tag
abbrev pub tags_for : Option VlanHeader → List ℕ → List (List ℕ)
tags_for None bytes = []
tags_for (Some (vlan.Single tag)) bytes = bytes ∷ []
tags_for (Some (vlan.Double outer inner)) bytes = take 4 bytes ∷ drop 4 bytes ∷ []

-- the IP header that such bytes are
abbrev pub ip_header_for : IpHeader → List ℕ → IpHeaderParts
ip_header_for (ip.Ipv4 header) bytes = Ipv4Bytes bytes
ip_header_for (ip.Ipv6 header) bytes = Ipv6Bytes bytes

-- the packet that is built is no fragment
abbrev pub IsNoFragment : IpHeader → Type 0
IsNoFragment (ip.Ipv4 header) = (header.more_fragments ≡ false) × (header.fragment_offset ≡ 0)
IsNoFragment (ip.Ipv6 header) = Unit {0}

-- tags stand after a link header
abbrev pub TagsAreLinked : Headers → Type 0
TagsAreLinked headers = headers.link ≡ None → headers.vlan ≡ None

-- A link header has an EtherType, except that of a Linux cooked capture of a device whose protocol
-- type is none, such as netlink.
abbrev pub tells_ether_type : Option LinkHeader → Bool
tells_ether_type (Some (link.LinuxSll header)) =
    is_some (cooked_ether_type header.arp_hrd_type header.protocol_type)
tells_ether_type link = true

-- the layers of a frame of which only the link header is read, and these bytes after it are not
abbrev pub layers_after : Option LinkParts → List ℕ → Layers
layers_after link payload = record {
  link = link;
  tags = [];
  ether_type = None;
  payload = payload;
  net = None;
  transport = None;
}

-- the layers of a packet with these headers, whose bytes these are, and this transport header
abbrev pub layers_for : (headers : Headers) → (protocol : ℕ) → (upper frame : List ℕ)
    → HasHeaders headers protocol upper frame → TransportParts → Layers
layers_for headers protocol upper frame built transport = record {
  link = link_parts_for headers.link built.begins.link;
  tags = tags_for headers.vlan built.begins.tags;
  ether_type = ether_type_for headers.link headers.ip;
  payload = built.begins.ip ++ upper;
  net = Some (record {
    header = ip_header_for headers.ip built.begins.ip;
    extensions = [];
    fragment = None;
    is_later_fragment = false;
    upper = protocol;
    payload = upper;
  });
  transport = Some transport;
}

-- what is read is a UDP packet that was built of these headers, ports and payload, in its layers;
-- and its checksum is right
pub record IsBuiltOfUdp (headers : Headers) (source_port destination_port : ℕ)
    (payload frame : List ℕ) (packet : SlicedPacket) : Type 0 where
  pub built : IsUdpPacket headers source_port destination_port payload frame
  pub layers : layers_of packet ≡ layers_for headers 17 (built.bytes ++ payload) frame
      built.has_headers (UdpParts built.udp payload)
  pub right : IsSomeAnd packet.net (λ slice. IsVerdict slice Right)

-- the same of TCP
pub record IsBuiltOfTcp (headers : Headers) (header : TcpHeader) (payload frame : List ℕ)
    (packet : SlicedPacket) : Type 0 where
  pub built : IsTcpPacket headers header payload frame
  pub layers : layers_of packet ≡ layers_for headers 6 (built.bytes ++ payload) frame
      built.has_headers (TcpParts built.bytes payload)
  pub right : IsSomeAnd packet.net (λ slice. IsVerdict slice Right)

-- the header of a message of ICMP: its type, its code and its checksum
abbrev pub icmp_header_for : ℕ → ℕ → ℕ → IcmpHeader
icmp_header_for type_number code_number checksum =
    record { type_u8 = type_number; code_u8 = code_number; checksum = checksum }

-- the same of ICMP, of which the first four bytes are read as a header
pub record IsBuiltOfIcmpv4 (headers : Headers) (icmp_type : Icmpv4Type) (payload frame : List ℕ)
    (packet : SlicedPacket) : Type 0 where
  pub built : IsIcmpv4Packet headers icmp_type payload frame
  pub layers : layers_of packet ≡ layers_for headers 1 (built.bytes ++ payload) frame
      built.has_headers (Icmpv4Parts (icmp_header_for (icmpv4_type_number icmp_type)
      (icmpv4_code_number icmp_type) built.checksum) (drop 4 built.bytes ++ payload))
  pub right : IsSomeAnd packet.net (λ slice. IsVerdict slice Right)

-- and of ICMPv6
pub record IsBuiltOfIcmpv6 (headers : Headers) (icmp_type : Icmpv6Type) (payload frame : List ℕ)
    (packet : SlicedPacket) : Type 0 where
  pub built : IsIcmpv6Packet headers icmp_type payload frame
  pub layers : layers_of packet ≡ layers_for headers 58 (built.bytes ++ payload) frame
      built.has_headers (Icmpv6Parts (icmp_header_for (icmpv6_type_number icmp_type)
      (icmpv6_code_number icmp_type) built.checksum) (drop 4 built.bytes ++ payload))
  pub right : IsSomeAnd packet.net (λ slice. IsVerdict slice Right)

-- a frame with an ARP packet, which is no IP packet
pub record IsBuiltOfArp (step : ArpStep) (frame : List ℕ) (packet : SlicedPacket) : Type 0 where
  pub built : IsArpFrame step frame
  pub layers : layers_of packet ≡ record {
    link = link_parts_for (Some step.link) built.are_before.first;
    tags = tags_for step.vlan built.are_before.tags;
    ether_type = Some 0x0806;
    payload = built.arp;
    net = None;
    transport = None;
  }
