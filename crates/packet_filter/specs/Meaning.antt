-- What an expression says of a frame that was taken apart (pcap-filter(7)).
use Rattle.std.specs.Prelude.{ℕ, ◌≡◌, ◌≢◌, ◌+◌, ◌-◌, ◌^◌, ◌/◌, ◌%◌, ◌<◌, ◌≤◌, ◌==◌, ◌&&◌, ◌||◌, ◌⊎◌}
use Rattle.std.specs.Prelude.{Bool, false, IsFalse, IsSome, IsSomeAnd, MatchOption, List, [], ◌∷◌}
use Rattle.std.specs.Prelude.{◌++◌, Option, None, Some, bit_and, if◌then◌else◌, length, nat_le}
use Rattle.std.specs.Prelude.{slice_range, take}
use Rattle.std.specs.Option.{option_map_or}
use Rattle.std.specs.List.{concat}
use Rattle.std.specs.Int.{from_be_bytes, w8, w16, w32, w128}
use Rattle.std.specs.Str.{bytes_eq}
use Rattle.etherparse.specs.WordSums.{SumsToAllOnes}
use Rattle.etherparse_link.specs.Bytes.{number_at}
use Rattle.packet.specs.SlicedPacket.{IsVerdictOn}
use Rattle.packet.specs.Vlan.{tags_of}
use Rattle.packet.specs.declared.lax_sliced_packet.LaxSlicedPacket.{LaxSlicedPacket}
use Rattle.packet.specs.declared.link.LinkSlice.{LinkSlice}
use Rattle.packet.specs.declared.link.LinkSlice.TheVariants as link
use Rattle.packet.specs.declared.sliced_packet.SlicedPacket.{SlicedPacket}
use Rattle.packet_parts.specs.IpSlice.{destination_of, header_bytes, source_of}
use Rattle.packet_parts.specs.declared.checksum.Verdict.TheVariants.{Wrong}
use Rattle.packet_parts.specs.declared.ip_slice.IpHeaderSlice.{IpHeaderSlice}
use Rattle.packet_parts.specs.declared.ip_slice.IpHeaderSlice.TheVariants as header
use Rattle.packet_parts.specs.declared.ip_slice.IpSlice.{IpSlice}
use Rattle.packet_filter.specs.declared.address.Address.{Address}
use Rattle.packet_filter.specs.declared.address.Address.TheVariants.{V4, V6}
use Rattle.packet_filter.specs.declared.expression.Direction.{Direction}
use Rattle.packet_filter.specs.declared.expression.Direction.TheVariants.{Both, Destination}
use Rattle.packet_filter.specs.declared.expression.Direction.TheVariants.{Either, Source}
use Rattle.packet_filter.specs.declared.expression.Layer.{Layer}
use Rattle.packet_filter.specs.declared.expression.Layer.TheVariants as layer
use Rattle.packet_filter.specs.declared.expression.Network.{Network}
use Rattle.packet_filter.specs.declared.expression.Network.TheVariants as network
use Rattle.packet_filter.specs.declared.expression.Operator.{Operator}
use Rattle.packet_filter.specs.declared.expression.Operator.TheVariants.{And, Or}
use Rattle.packet_filter.specs.declared.expression.Primitive.{Primitive}
use Rattle.packet_filter.specs.declared.expression.Primitive.TheVariants as primitive
use Rattle.packet_filter.specs.declared.expression.Quantity.{Quantity}
use Rattle.packet_filter.specs.declared.expression.Quantity.TheVariants.{Length, Load}
use Rattle.packet_filter.specs.declared.expression.Relation.{Relation}
use Rattle.packet_filter.specs.declared.expression.Relation.TheVariants as relation
use Rattle.packet_filter.specs.declared.expression.Size.{Size}
use Rattle.packet_filter.specs.declared.expression.Size.TheVariants.{Four, One, Two}
use Rattle.packet_filter.specs.declared.expression.Transport.{Transport}
use Rattle.packet_filter.specs.declared.expression.Transport.TheVariants as transport
use Rattle.packet_filter.specs.declared.expression.Version.{Version}
use Rattle.packet_filter.specs.declared.expression.Version.TheVariants as version

-- The ends that the direction names have the property; without a direction, one of the two has it.
abbrev pub OfEnds : {A : Type 0} → Option Direction → A → A → (A → Type 0) → Type 0
OfEnds None source destination P = P source ⊎ P destination
OfEnds (Some Source) source destination P = P source
OfEnds (Some Destination) source destination P = P destination
OfEnds (Some Either) source destination P = P source ⊎ P destination
OfEnds (Some Both) source destination P = P source × P destination

-- ---- IP

-- the header is of this version
abbrev pub HasVersion : Version → IpHeaderSlice → Type 0
HasVersion version.Ipv4 (header.Ipv4 view) = Unit {0}
HasVersion version.Ipv4 (header.Ipv6 view) = ⊥
HasVersion version.Ipv6 (header.Ipv4 view) = ⊥
HasVersion version.Ipv6 (header.Ipv6 view) = Unit {0}

-- its EtherType (RFC 894, RFC 2464 section 3)
abbrev pub ether_type_of : Version → ℕ
ether_type_of version.Ipv4 = 0x0800
ether_type_of version.Ipv6 = 0x86dd

-- The frame carries an IP packet of this version. Of a packet without a whole header the EtherType
-- says so.
abbrev pub IsIp : Version → SlicedPacket → Type 0
IsIp v packet = MatchOption packet.net (packet.ether_type ≡ Some (ether_type_of v))
    (λ ip. HasVersion v ip.header)

-- The payload of the IP packet, after all extension headers, has this number (IANA's protocol
-- numbers). In a later fragment over IPv6 it is the number that its fragment header has: that of
-- the first header that was cut into fragments, which can be an extension header (RFC 8200 section
-- 4.5). If the packet ends within an extension header, it is the number of that.
abbrev pub HasProto : Option Version → ℕ → SlicedPacket → Type 0
HasProto None number packet = IsSomeAnd packet.net (λ ip. ip.upper ≡ number)
HasProto (Some v) number packet =
    IsSomeAnd packet.net (λ ip. HasVersion v ip.header × (ip.upper ≡ number))

-- TCP (RFC 9293), UDP (RFC 768) and SCTP (RFC 9260) by their numbers
abbrev pub transport_number : Transport → ℕ
transport_number transport.Tcp = 6
transport_number transport.Udp = 17
transport_number transport.Sctp = 132

-- ---- addresses

-- the addresses in the header of an IP packet, as numbers
abbrev pub ip_source : IpHeaderSlice → Address
ip_source (header.Ipv4 view) = V4 (from_be_bytes w32 (source_of (header.Ipv4 view)))
ip_source (header.Ipv6 view) = V6 (from_be_bytes w128 (source_of (header.Ipv6 view)))

abbrev pub ip_destination : IpHeaderSlice → Address
ip_destination (header.Ipv4 view) = V4 (from_be_bytes w32 (destination_of (header.Ipv4 view)))
ip_destination (header.Ipv6 view) = V6 (from_be_bytes w128 (destination_of (header.Ipv6 view)))

-- The first six bytes of an ARP packet for Ethernet and IPv4 (RFC 826, "Packet format"): hardware
-- type 1, protocol type 0x0800, hardware addresses of 6 bytes and protocol addresses of 4. A packet
-- of RARP has the same format (RFC 903).
abbrev pub is_arp_of_ipv4 : Option ℕ → List ℕ → Bool
is_arp_of_ipv4 None payload = false
is_arp_of_ipv4 (Some ether_type) payload = (ether_type == 0x0806 || ether_type == 0x8035)
    && bytes_eq (take 6 payload) (0 ∷ 1 ∷ 8 ∷ 0 ∷ 6 ∷ 4 ∷ [])

-- the protocol address at a place in it, if its four bytes are there
abbrev pub arp_address : ℕ → SlicedPacket → Option Address
arp_address place packet =
    if is_arp_of_ipv4 packet.ether_type packet.payload.now
    && nat_le (place + 4) (length packet.payload.now)
    then Some (V4 (from_be_bytes w32 (slice_range packet.payload.now place (place + 4))))
    else None

-- Who sends a packet, and who is to get it. In ARP it is the protocol address of the sender, bytes
-- 14 to 17, and of the target, bytes 24 to 27.
abbrev pub source_address : SlicedPacket → Option Address
source_address packet =
    option_map_or (λ ip. Some (ip_source ip.header)) packet.net (arp_address 14 packet)

abbrev pub destination_address : SlicedPacket → Option Address
destination_address packet =
    option_map_or (λ ip. Some (ip_destination ip.header)) packet.net (arp_address 24 packet)

-- the packet is of a protocol that a qualifier names: IP of a version, ARP or RARP
abbrev pub IsOf : Option Network → SlicedPacket → Type 0
IsOf None packet = Unit {0}
IsOf (Some (network.Ip v)) packet = IsIp v packet
IsOf (Some network.Arp) packet = packet.ether_type ≡ Some 0x0806
IsOf (Some network.Rarp) packet = packet.ether_type ≡ Some 0x8035

-- the first `len` bits of both addresses, which are of one version, are equal
abbrev pub IsWithin : Address → ℕ → Address → Type 0
IsWithin (V4 a) len (V4 b) = a / 2 ^ (32 - len) ≡ b / 2 ^ (32 - len)
IsWithin (V6 a) len (V6 b) = a / 2 ^ (128 - len) ≡ b / 2 ^ (128 - len)
IsWithin (V4 a) len (V6 b) = ⊥
IsWithin (V6 a) len (V4 b) = ⊥

-- both addresses are of IPv4, and have the same bits where the mask has one
abbrev pub IsWithinMask : ℕ → ℕ → Address → Type 0
IsWithinMask a mask (V4 b) = bit_and a mask ≡ bit_and b mask
IsWithinMask a mask (V6 b) = ⊥

-- ---- ports

-- an IP packet carries this transport protocol, or any with ports
abbrev pub Carries : Option Transport → IpSlice → Type 0
Carries (Some t) ip = ip.upper ≡ transport_number t
Carries None ip = (ip.upper ≡ 6) ⊎ (ip.upper ≡ 17) ⊎ (ip.upper ≡ 132)

-- The ports are the first four bytes of the payload (RFC 768, RFC 9293 section 3.1, RFC 9260
-- section 3.1). They are there in a first fragment or a truncated packet without the whole header
-- too. A later fragment has none.
pub record HasPorts (t : Option Transport) (d : Option Direction) (Holds : ℕ → Type 0)
    (ip : IpSlice) : Type 0 where
  pub carries : Carries t ip
  pub first : IsFalse ip.is_later_fragment
  pub enough : 4 ≤ length ip.payload.now
  pub ends : OfEnds d (number_at 0 ip.payload.now) (number_at 2 ip.payload.now) Holds

-- ---- tags

-- one of the tags has the property
abbrev pub SomeTag : (List ℕ → Type 0) → List (List ℕ) → Type 0
SomeTag P [] = ⊥
SomeTag P (tag ∷ tags) = P tag ⊎ SomeTag P tags

-- the tag is of this VLAN: the lower 12 bits of its first two bytes (IEEE 802.1Q section 9.6)
abbrev pub IsTagOf : Option ℕ → List ℕ → Type 0
IsTagOf None tag = Unit {0}
IsTagOf (Some identifier) tag = number_at 0 tag % 2 ^ 12 ≡ identifier

-- ---- Ethernet

-- the bytes of an Ethernet header
abbrev pub ethernet_header : Option LinkSlice → Option (List ℕ)
ethernet_header (Some (link.Ethernet2 view)) = Some view.slice.now
ethernet_header (Some (link.LinuxSll view)) = None
ethernet_header (Some (link.LinuxSll2 view)) = None
ethernet_header (Some (link.Loopback family)) = None
ethernet_header (Some (link.Framed slice carried)) = None
ethernet_header None = None

-- The ends that the direction names have this address: the destination is the first six bytes of
-- the header, the source the six after it (IEEE 802.3 section 3.1.1).
abbrev pub HasHardware : Option Direction → List ℕ → List ℕ → Type 0
HasHardware d address bytes = OfEnds d (slice_range bytes 6 12) (slice_range bytes 0 6)
    (λ found. found ≡ address)

-- ---- numbers

-- the bytes of an IP packet from its header on
abbrev pub ip_bytes : IpSlice → List ℕ
ip_bytes ip = header_bytes ip.header ++ (ip.extensions.now ++ ip.payload.now)

-- The bytes that a load counts from the first on: of the frame, from its Ethernet header on, its
-- tags included; of the IP packet, as far as its length field says, if it does; of all that follows
-- an EtherType; of the payload of an IP packet that is no later fragment, which begins with no
-- header.
abbrev pub Loads : Layer → SlicedPacket → List ℕ → Type 0
Loads layer.Ether packet bytes = IsSomeAnd (ethernet_header packet.link)
    (λ front. bytes ≡ front ++ (concat (tags_of packet.vlan) ++ packet.payload.now))
Loads (layer.Ip v) packet bytes =
    IsSomeAnd packet.net (λ ip. HasVersion v ip.header × (bytes ≡ ip_bytes ip))
Loads (layer.Type number) packet bytes =
    (packet.ether_type ≡ Some number) × (bytes ≡ packet.payload.now)
Loads (layer.Payload v number) packet bytes = HasProto v number packet
    × IsSomeAnd packet.net (λ ip. IsFalse ip.is_later_fragment × (bytes ≡ ip.payload.now))

-- how many bytes are loaded
abbrev pub size_len : Size → ℕ
size_len One = 1
size_len Two = 2
size_len Four = 4

-- so many bytes as a number, in network byte order
abbrev pub number_of : Size → List ℕ → ℕ
number_of One bytes = from_be_bytes w8 bytes
number_of Two bytes = from_be_bytes w16 bytes
number_of Four bytes = from_be_bytes w32 bytes

-- the bytes at a place, which are all there, are this number
abbrev pub IsNumberAt : Size → ℕ → List ℕ → ℕ → Type 0
IsNumberAt size place bytes number = (place + size_len size ≤ length bytes)
    × (number ≡ number_of size (slice_range bytes place (place + size_len size)))

-- The packet tells this number: the length of its frame, or bytes that are loaded.
abbrev pub Tells : Quantity → SlicedPacket → ℕ → ℕ → Type 0
Tells Length packet len number = number ≡ len
Tells (Load l place size) packet len number =
    (bytes : List ℕ) × Loads l packet bytes × IsNumberAt size place bytes number

-- the bits of a number that the mask has
abbrev pub masked : Option ℕ → ℕ → ℕ
masked None number = number
masked (Some mask) number = bit_and number mask

-- the first number is in this relation to the second
abbrev pub Compares : Relation → ℕ → ℕ → Type 0
Compares relation.Equal a b = a ≡ b
Compares relation.NotEqual a b = a ≢ b
Compares relation.Less a b = a < b
Compares relation.LessOrEqual a b = a ≤ b
Compares relation.Greater a b = b < a
Compares relation.GreaterOrEqual a b = b ≤ a

-- ---- checksums

-- the checksum of the header is wrong (RFC 791 section 3.1); a header of IPv6 has none (RFC 8200
-- section 3)
abbrev pub HasWrongHeader : IpHeaderSlice → Type 0
HasWrongHeader (header.Ipv4 view) = ¬ SumsToAllOnes view.slice.now
HasWrongHeader (header.Ipv6 view) = ⊥

-- The checksum of its IPv4 header is wrong, or that of its payload, which is there whole.
abbrev pub HasWrongChecksum : LaxSlicedPacket → Type 0
HasWrongChecksum lax = IsSomeAnd lax.packet.net (λ ip. HasWrongHeader ip.header)
    ⊎ IsVerdictOn lax.packet.net lax.stop (Some Wrong)

-- ---- expressions

-- What a primitive says of a packet, of which the frame had `len` bytes on the wire.
abbrev pub Holds : Primitive → LaxSlicedPacket → ℕ → Type 0
Holds (primitive.Version v) lax len = IsIp v lax.packet
Holds (primitive.EtherType number) lax len = lax.packet.ether_type ≡ Some number
Holds (primitive.Proto v number) lax len = HasProto v number lax.packet
Holds (primitive.Net n d address bits) lax len = IsOf n lax.packet
    × OfEnds d (source_address lax.packet) (destination_address lax.packet)
    (λ found. IsSomeAnd found (IsWithin address bits))
Holds (primitive.Masked n d address mask) lax len = IsOf n lax.packet
    × OfEnds d (source_address lax.packet) (destination_address lax.packet)
    (λ found. IsSomeAnd found (IsWithinMask address mask))
Holds (primitive.Ports t d low high) lax len =
    IsSomeAnd lax.packet.net (HasPorts t d (λ port. (low ≤ port) × (port ≤ high)))
Holds (primitive.Hardware d address) lax len =
    IsSomeAnd (ethernet_header lax.packet.link) (HasHardware d address)
Holds (primitive.Vlan identifier) lax len =
    SomeTag (IsTagOf identifier) (tags_of lax.packet.vlan)
Holds (primitive.Compare quantity mask r limit) lax len = (number : ℕ)
    × Tells quantity lax.packet len number × Compares r (masked mask number) limit
Holds primitive.Fragment lax len = IsSomeAnd lax.packet.net (λ ip. IsSome ip.fragment)
Holds primitive.FirstFragment lax len =
    IsSomeAnd lax.packet.net (λ ip. IsSomeAnd ip.fragment (λ fragment. fragment.offset ≡ 0))
Holds primitive.WrongChecksum lax len = HasWrongChecksum lax

-- an expression, without its parentheses
pub data Expression : Type 0 where
  one : Primitive → Expression
  negation : Expression → Expression
  compound : Operator → Expression → Expression → Expression

-- what an expression says of a packet
abbrev pub Matches : Expression → LaxSlicedPacket → ℕ → Type 0
Matches (one p) lax len = Holds p lax len
Matches (negation e) lax len = ¬ Matches e lax len
Matches (compound And a b) lax len = Matches a lax len × Matches b lax len
Matches (compound Or a b) lax len = Matches a lax len ⊎ Matches b lax len
