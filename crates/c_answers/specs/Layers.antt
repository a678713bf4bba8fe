-- The layers of a frame, as C has them: offsets, lengths and numbers.
use Rattle.std.specs.Prelude.{ℕ, ◌≡◌, ◌+◌, ◌-◌, ◌/◌, ◌%◌, ◌^◌, ◌==◌, ◌⊎◌, Bool, true, false, IfSome}
use Rattle.std.specs.Prelude.{IsSomeAnd, List, MatchOption, drop, length, nat_lt, slice_index, take}
use Rattle.std.specs.Prelude.{Option, Some, None, Result, Ok, Err}
use Rattle.etherparse.specs.WordSums.{SumsToAllOnes}
use Rattle.etherparse_link.specs.Bytes.{number_at}
use Rattle.packet.specs.Link.{link_type_of}
use Rattle.packet.specs.SlicedPacket.{IsLaxReadingOf, IsVerdictOn}
use Rattle.packet.specs.Transport.{HasPorts}
use Rattle.packet.specs.declared.error.SliceError.{SliceError}
use Rattle.packet.specs.declared.lax_sliced_packet.LaxSlicedPacket.{LaxSlicedPacket}
use Rattle.packet.specs.declared.link.LinkError.{LinkError}
use Rattle.packet.specs.declared.link.LinkSlice.{LinkSlice}
use Rattle.packet.specs.declared.link.LinkSlice.TheVariants as header
use Rattle.packet.specs.declared.link.LinkType.{LinkType}
use Rattle.packet.specs.declared.sliced_packet.SlicedPacket.{SlicedPacket}
use Rattle.packet.specs.declared.transport.TransportSlice.{TransportSlice}
use Rattle.packet.specs.declared.transport.TransportSlice.TheVariants as transport
use Rattle.packet.specs.declared.vlan.VlanSlice.{VlanSlice}
use Rattle.packet.specs.declared.vlan.VlanSlice.TheVariants.{DoubleVlan, SingleVlan}
use Rattle.packet_parts.specs.IpSlice.{header_bytes, header_len_of, packet_len_of}
use Rattle.packet_parts.specs.declared.checksum.Absence.TheVariants as absence
use Rattle.packet_parts.specs.declared.checksum.Verdict.{Verdict}
use Rattle.packet_parts.specs.declared.checksum.Verdict.TheVariants.{Absent, Right, Wrong}
use Rattle.packet_parts.specs.declared.fragment.Fragment.{Fragment}
use Rattle.packet_parts.specs.declared.ip_slice.IpHeaderSlice.{IpHeaderSlice}
use Rattle.packet_parts.specs.declared.ip_slice.IpHeaderSlice.TheVariants as version
use Rattle.packet_parts.specs.declared.ip_slice.IpSlice.{IpSlice}
use Rattle.c_answers.specs.Error.{link_error_in_c, link_type_error, slice_error_in_c, stop_in_c}
use Rattle.c_answers.specs.declared.error.Error.{Error}
use Rattle.c_answers.specs.declared.packet_layers.Packet.{Packet}
use Rattle.c_answers.specs.declared.packet_layers.PacketIp.{PacketIp}
use Rattle.c_answers.specs.declared.packet_layers.PacketLink.{PacketLink}
use Rattle.c_answers.specs.declared.packet_layers.PacketTransport.{PacketTransport}
use Rattle.c_answers.specs.declared.packet_layers.Part.{Part}
use Rattle.c_answers.specs.declared.packet_layers.VlanTag.{VlanTag}

-- a part that begins at an offset and has these bytes
abbrev pub part_at : ℕ → List ℕ → Part
part_at offset bytes = record { offset = offset; len = length bytes }

-- no part
abbrev pub no_part : Part
no_part = record { offset = 0; len = 0 }

-- ---- the link header and the tags

-- which link header it is
abbrev pub link_kind : Option LinkSlice → ℕ
link_kind None = 0
link_kind (Some (header.Ethernet2 view)) = 1
link_kind (Some (header.LinuxSll view)) = 2
link_kind (Some (header.LinuxSll2 view)) = 3
link_kind (Some (header.Loopback family)) = 4
link_kind (Some (header.Framed slice carried)) = 5

-- how many bytes it has; that of a loopback interface is its family, in four bytes
abbrev pub link_header_len : Option LinkSlice → ℕ
link_header_len None = 0
link_header_len (Some (header.Ethernet2 view)) = length view.slice.now
link_header_len (Some (header.LinuxSll view)) = length view.slice.now
link_header_len (Some (header.LinuxSll2 view)) = length view.slice.now
link_header_len (Some (header.Loopback family)) = 4
link_header_len (Some (header.Framed slice carried)) = length slice.now

-- the family in the header of a loopback interface
abbrev pub link_family : Option LinkSlice → ℕ
link_family (Some (header.Loopback family)) = family
link_family _ = 0

-- the fields of a tag: its first two bytes (IEEE 802.1Q section 9.6)
abbrev pub tag_in_c : List ℕ → VlanTag
tag_in_c tag = record {
  identifier = number_at 0 tag % 2 ^ 12;
  priority = slice_index tag 0 / 2 ^ 5;
  drop_eligible = slice_index tag 0 / 2 ^ 4 % 2 == 1;
}

-- no tag
abbrev pub no_tag : VlanTag
no_tag = record { identifier = 0; priority = 0; drop_eligible = false }

-- the outer tag, the inner tag, and how many there are
abbrev pub tags_in_c : Option VlanSlice → VlanTag × VlanTag × ℕ
tags_in_c None = (no_tag, no_tag, 0)
tags_in_c (Some (SingleVlan tag)) = (tag_in_c tag.slice.now, no_tag, 1)
tags_in_c (Some (DoubleVlan outer inner)) =
    (tag_in_c outer.slice.now, tag_in_c inner.slice.now, 2)

-- whether there is an EtherType, and its number
abbrev pub ether_type_in_c : Option ℕ → Bool × ℕ
ether_type_in_c None = (false, 0)
ether_type_in_c (Some ether_type) = (true, ether_type)

-- the link header at the front of a frame, its tags, and the payload at a place after them
abbrev pub link_in_c : ℕ → SlicedPacket → PacketLink
link_in_c place packet = record {
  header = record { offset = 0; len = link_header_len packet.link };
  payload = part_at place packet.payload.now;
  family = link_family packet.link;
  ether_type = (ether_type_in_c packet.ether_type).1;
  outer_vlan = (tags_in_c packet.vlan).0;
  inner_vlan = (tags_in_c packet.vlan).1;
  kind = link_kind packet.link;
  vlan_count = (tags_in_c packet.vlan).2;
  has_ether_type = (ether_type_in_c packet.ether_type).0;
}

-- ---- the IP packet

-- whether it is a fragment, its identification, its offset, and whether more fragments follow
abbrev pub fragment_in_c : Option Fragment → Bool × ℕ × ℕ × Bool
fragment_in_c None = (false, 0, 0, false)
fragment_in_c (Some fragment) =
    (true, fragment.identification, fragment.offset, fragment.more_fragments)

-- the version of a packet
abbrev pub ip_version : IpHeaderSlice → ℕ
ip_version (version.Ipv4 view) = 4
ip_version (version.Ipv6 view) = 6

-- The parts of an IP packet at a place, one after the other. It is truncated if fewer bytes are
-- there than its length field says, if that says something.
abbrev pub ip_parts_in_c : ℕ → ℕ → IpSlice → PacketIp
ip_parts_in_c place there ip = record {
  header = part_at place (header_bytes ip.header);
  extensions = part_at (place + length (header_bytes ip.header)) ip.extensions.now;
  payload = part_at (place + header_len_of ip) ip.payload.now;
  packet_len = packet_len_of ip.header;
  identification = (fragment_in_c ip.fragment).1;
  fragment_offset = (fragment_in_c ip.fragment).2;
  version = ip_version ip.header;
  upper = ip.upper;
  is_fragment = (fragment_in_c ip.fragment).0;
  more_fragments = (fragment_in_c ip.fragment).3;
  is_later_fragment = ip.is_later_fragment;
  is_truncated = nat_lt there (packet_len_of ip.header);
}

-- no IP packet
abbrev pub no_ip : PacketIp
no_ip = record {
  header = no_part;
  extensions = no_part;
  payload = no_part;
  packet_len = 0;
  identification = 0;
  fragment_offset = 0;
  version = 0;
  upper = 0;
  is_fragment = false;
  more_fragments = false;
  is_later_fragment = false;
  is_truncated = false;
}

-- the IP packet of a frame, if it has one
abbrev pub net_in_c : ℕ → ℕ → Option IpSlice → PacketIp
net_in_c place there None = no_ip
net_in_c place there (Some ip) = ip_parts_in_c place there ip

abbrev pub ip_in_c : ℕ → SlicedPacket → PacketIp
ip_in_c place packet = net_in_c place (length packet.payload.now) packet.net

-- ---- the transport header

-- no transport header
abbrev pub no_transport : PacketTransport
no_transport = record {
  header = no_part;
  payload = no_part;
  source_port = 0;
  destination_port = 0;
  kind = 0;
  has_ports = false;
  tcp_flags = 0;
  icmp_type = 0;
  icmp_code = 0;
}

-- a header of this length at a place, and what follows it
abbrev pub header_and_payload : ℕ → ℕ → List ℕ → PacketTransport
header_and_payload start len payload = record no_transport {
  header = record { offset = start; len = len };
  payload = part_at (start + len) payload;
}

-- a header of ICMP or ICMPv6, of which 4 bytes are read
abbrev pub icmp_at : ℕ → ℕ → ℕ → ℕ → List ℕ → PacketTransport
icmp_at start kind icmp_type icmp_code payload = record (header_and_payload start 4 payload) {
  kind = kind;
  icmp_type = icmp_type;
  icmp_code = icmp_code;
}

-- a transport header at a place, without its ports: UDP, TCP, ICMP or ICMPv6, by its number
abbrev pub header_at : ℕ → Option TransportSlice → PacketTransport
header_at start None = no_transport
header_at start (Some (transport.Udp header payload)) =
    record (header_and_payload start 8 payload.now) { kind = 17 }
header_at start (Some (transport.Tcp header payload)) =
    record (header_and_payload start (length header.slice.now) payload.now) {
      kind = 6;
      tcp_flags = slice_index header.slice.now 13;
    }
header_at start (Some (transport.Icmpv4 header payload)) =
    icmp_at start 1 header.type_u8 header.code_u8 payload.now
header_at start (Some (transport.Icmpv6 header payload)) =
    icmp_at start 58 header.type_u8 header.code_u8 payload.now

-- the place of the payload of an IP packet at a place
abbrev pub upper_place : ℕ → Option IpSlice → ℕ
upper_place place None = place
upper_place place (Some ip) = place + header_len_of ip

-- these are the ports of a packet, or it has none
abbrev pub ArePorts : Option IpSlice → Option (ℕ × ℕ) → Type 0
ArePorts net None = IfSome net (λ ip. (ports : ℕ × ℕ) → ¬ HasPorts ip ports)
ArePorts net (Some ports) = IsSomeAnd net (λ ip. HasPorts ip ports)

-- a transport header with ports, if there are any
abbrev pub with_ports : Option (ℕ × ℕ) → PacketTransport → PacketTransport
with_ports None transport = transport
with_ports (Some ports) transport = record transport {
  source_port = ports.0;
  destination_port = ports.1;
  has_ports = true;
}

-- the transport header of a packet at a place, and its ports
pub record HasTransportInC (place : ℕ) (packet : SlicedPacket) (in_c : PacketTransport)
    : Type 0 where
  pub ports : Option (ℕ × ℕ)
  pub are_ports : ArePorts packet.net ports
  pub value : in_c ≡
      with_ports ports (header_at (upper_place place packet.net) packet.transport)

-- ---- verdicts on checksums

-- the number of a verdict, or that of no packet
abbrev pub verdict_in_c : Option Verdict → ℕ
verdict_in_c None = 0
verdict_in_c (Some Right) = 1
verdict_in_c (Some Wrong) = 2
verdict_in_c (Some (Absent absence.Fragment)) = 3
verdict_in_c (Some (Absent absence.OtherProtocol)) = 4
verdict_in_c (Some (Absent absence.Incomplete)) = 5
verdict_in_c (Some (Absent absence.NotComputed)) = 6
verdict_in_c (Some (Absent absence.UnknownDestination)) = 7

-- the verdict on the payload, if it was asked for
abbrev pub IsPayloadVerdict : Bool → Option IpSlice → Option SliceError → ℕ → Type 0
IsPayloadVerdict false net stop number = number ≡ 0
IsPayloadVerdict true net stop number =
    (verdict : Option Verdict) × IsVerdictOn net stop verdict × (number ≡ verdict_in_c verdict)

-- the verdict on a header: the checksum of IPv4 is right if its words sum to all ones (RFC 791
-- section 3.1, RFC 1071 section 1); IPv6 has none (RFC 8200 section 3)
abbrev pub IsVerdictOnHeader : IpHeaderSlice → ℕ → Type 0
IsVerdictOnHeader (version.Ipv4 view) number =
    ((number ≡ 1) × SumsToAllOnes view.slice.now)
    ⊎ ((number ≡ 2) × ¬ SumsToAllOnes view.slice.now)
IsVerdictOnHeader (version.Ipv6 view) number = number ≡ 0

-- the same of the packet of a frame, if it was asked for
abbrev pub IsHeaderVerdict : Bool → Option IpSlice → ℕ → Type 0
IsHeaderVerdict false net number = number ≡ 0
IsHeaderVerdict true net number =
    MatchOption net (number ≡ 0) (λ ip. IsVerdictOnHeader ip.header number)

-- ---- a frame

-- what C gets of the layers of a frame of this length, and of why they end
pub record IsPacketInC (frame_len : ℕ) (checksums : Bool) (packet : SlicedPacket)
    (stop : Option SliceError) (in_c : Packet) : Type 0 where
  pub link : in_c.link ≡ link_in_c (frame_len - length packet.payload.now) packet
  pub ip : in_c.ip ≡ ip_in_c (frame_len - length packet.payload.now) packet
  pub transport : HasTransportInC (frame_len - length packet.payload.now) packet in_c.transport
  pub stops : in_c.stop ≡ stop_in_c stop
  pub header_checksum : IsHeaderVerdict checksums packet.net in_c.header_checksum
  pub payload_checksum : IsPayloadVerdict checksums packet.net stop in_c.payload_checksum

-- nothing but an error
abbrev pub refused_packet : Error → Packet
refused_packet e = record {
  link = record {
    header = no_part;
    payload = no_part;
    family = 0;
    ether_type = 0;
    outer_vlan = no_tag;
    inner_vlan = no_tag;
    kind = 0;
    vlan_count = 0;
    has_ether_type = false;
  };
  ip = no_ip;
  transport = no_transport;
  stop = e;
  header_checksum = 0;
  payload_checksum = 0;
}

-- what C gets for the reading of a frame as far as it goes, and for one that is read whole
abbrev pub IsLaxInC : ℕ → Bool → Packet → Result LaxSlicedPacket LinkError → Type 0
IsLaxInC frame_len checksums in_c (Ok lax) =
    IsPacketInC frame_len checksums lax.packet lax.stop in_c
IsLaxInC frame_len checksums in_c (Err e) = in_c ≡ refused_packet (link_error_in_c e)

abbrev pub IsWholeInC : ℕ → Bool → Packet → Result SlicedPacket SliceError → Type 0
IsWholeInC frame_len checksums in_c (Ok packet) =
    IsPacketInC frame_len checksums packet None in_c
IsWholeInC frame_len checksums in_c (Err e) = in_c ≡ refused_packet (slice_error_in_c e)

-- an answer is allowed, and C gets it
pub record GetsAnswer {A : Type 0} (Allowed : A → Type 0) (InC : A → Type 0) : Type 0 where
  pub answer : A
  pub allowed : Allowed answer
  pub in_c : InC answer

-- the same of a link type by its number, or the error of one that is not read
abbrev pub OfLinkType : Option LinkType → (LinkType → Type 0) → ℕ → Packet → Type 0
OfLinkType None Gets number in_c = in_c ≡ refused_packet (link_type_error number)
OfLinkType (Some link_type) Gets number in_c = Gets link_type

-- what C gets for a frame of the link type of this number, as far as it can be read
abbrev pub GivesLax : ℕ → Bool → List ℕ → Packet → Type 0
GivesLax link_type checksums frame in_c = OfLinkType (link_type_of link_type)
    (λ known. GetsAnswer (IsLaxReadingOf known frame)
    (IsLaxInC (length frame) checksums in_c)) link_type in_c

-- ---- where the parts lie

-- the bytes of a frame in a part
abbrev pub bytes_in : Part → List ℕ → List ℕ
bytes_in part frame = take part.len (drop part.offset frame)

-- the parts of an IP packet are the bytes at their places in a frame
pub record LiesThere (frame : List ℕ) (ip : IpSlice) (in_c : PacketIp) : Type 0 where
  pub header : bytes_in in_c.header frame ≡ header_bytes ip.header
  pub extensions : bytes_in in_c.extensions frame ≡ ip.extensions.now
  pub payload : bytes_in in_c.payload frame ≡ ip.payload.now

-- so are those of a packet
pub record LieThere (frame : List ℕ) (packet : SlicedPacket) (in_c : Packet) : Type 0 where
  pub payload : bytes_in in_c.link.payload frame ≡ packet.payload.now
  pub net : IfSome packet.net (λ ip. LiesThere frame ip in_c.ip)
