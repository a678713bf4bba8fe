-- A payload that begins with a whole transport header is read as that header and what follows it.
use Rattle.std.proofs.Common.{ℕ, ◌≡◌, ◌≤◌, ◌∙◌, ◌++◌, List, MatchOption, Option, Some, None, Ok, ap, arith, drop, false, length, length-take, refl, slice_index, subst, sym, take, take-append-drop}
use Rattle.std.specs.Borrow.{Bor}
use Rattle.std.proofs.lemmas.List.{drop_at}
use Rattle.etherparse.specs.declared.net.ipv4_header_slice.Ipv4HeaderSlice.{Ipv4HeaderSlice}
use Rattle.etherparse.specs.declared.net.ipv6_header_slice.Ipv6HeaderSlice.{Ipv6HeaderSlice}
use Rattle.etherparse_link.specs.Bytes.{number_at}
use Rattle.etherparse_transport.specs.Tcp.{HasTcpFront}
use Rattle.etherparse_transport.specs.Udp.{IsUdpLayout}
use Rattle.etherparse_transport.specs.declared.tcp.TcpHeaderSlice.{TcpHeaderSlice}
use Rattle.etherparse_transport.specs.declared.udp.UdpHeader.{UdpHeader}
use Rattle.etherparse.specs.Reading.{BeginsWith}
use Rattle.packet.specs.Transport.{IsIcmpLayout, ReadsHeader, ReadsPayload, ReadsTransport, TcpParts, protocol_of, protocol_over, transport_parts}
use Rattle.packet.specs.declared.error.SliceError.{SliceError}
use Rattle.packet.specs.declared.transport.IcmpHeader.{IcmpHeader}
use Rattle.packet.specs.declared.transport.Protocol.{Protocol}
use Rattle.packet.specs.declared.transport.Protocol.TheVariants.{Icmpv4, Icmpv6, Tcp, Udp}
use Rattle.packet.specs.declared.transport.TransportSlice.{TransportSlice}
use Rattle.packet.specs.declared.transport.TransportSlice.TheVariants as transport
use Rattle.packet_parts.specs.declared.ip_slice.IpHeaderSlice.{IpHeaderSlice}
use Rattle.packet_parts.specs.declared.ip_slice.IpHeaderSlice.TheVariants as header
use Rattle.packet_parts.specs.declared.ip_slice.IpSlice.{IpSlice}

-- a packet that is no fragment, and its protocol
record Carries (read : Protocol) (slice : IpSlice) : Type 0 where
  protocol : protocol_of slice ≡ Some read
  alone : slice.fragment ≡ None

abbrev FoundAt : ℕ → IpSlice → Option TransportSlice → Option SliceError → Option Protocol → Type 0
FoundAt place slice found missing protocol =
    MatchOption protocol ((found ≡ None) × (missing ≡ None)) (λ read. ReadsPayload read place slice found missing)

found_as : (read : Protocol) (place : ℕ) (slice : IpSlice) (found : TransportSlice) → Carries read slice → ReadsHeader read place slice.payload.now (Ok (transport_parts found))
    → ReadsTransport place slice (Some found) None
found_as read place slice found carries reads = subst (FoundAt place slice (Some found) None) (sym carries.protocol)
    (record { reading = Ok (transport_parts found); reads = reads; finds = refl; misses = rw carries.alone refl })

over_udp : (h : IpHeaderSlice) → protocol_over h 17 ≡ Some Udp
over_udp (header.Ipv4 view) = refl
over_udp (header.Ipv6 view) = refl

over_tcp : (h : IpHeaderSlice) → protocol_over h 6 ≡ Some Tcp
over_tcp (header.Ipv4 view) = refl
over_tcp (header.Ipv6 view) = refl

pub udp_found : (place : ℕ) (slice : IpSlice) (udp : UdpHeader) (bytes : List ℕ) (rest : Bor (List ℕ)) → slice.is_later_fragment ≡ false → slice.fragment ≡ None → slice.upper ≡ 17
    → slice.payload.now ≡ bytes ++ rest.now → IsUdpLayout udp bytes → ReadsTransport place slice (Some (transport.Udp udp rest)) None
udp_found place slice udp bytes rest first alone number whole layout = found_as Udp place slice (transport.Udp udp rest)
    (record { protocol = rw (first, number) (over_udp slice.header); alone = alone })
    (record { inside = Ok (udp, rest.now); allowed = record { front = bytes; whole = whole; layout = layout }; becomes = refl })

pub tcp_found : (place : ℕ) (slice : IpSlice) (view : TcpHeaderSlice) (rest : Bor (List ℕ)) → slice.is_later_fragment ≡ false → slice.fragment ≡ None → slice.upper ≡ 6
    → slice.payload.now ≡ view.slice.now ++ rest.now → HasTcpFront (view.slice.now ++ rest.now) view.slice.now → ReadsTransport place slice (Some (transport.Tcp view rest)) None
tcp_found place slice view rest first alone number whole front = found_as Tcp place slice (transport.Tcp view rest)
    (record { protocol = rw (first, number) (over_tcp slice.header); alone = alone })
    (rw whole (record { inside = Ok view.slice.now; allowed = front; becomes = ap (λ b. Ok (TcpParts view.slice.now b)) (sym (drop_at view.slice.now rest.now (length view.slice.now) refl)) }))

-- the header that the first 4 bytes of a message are
abbrev pub icmp_header : List ℕ → IcmpHeader
icmp_header s = record { type_u8 = slice_index (take 4 s) 0; code_u8 = slice_index (take 4 s) 1; checksum = number_at 2 (take 4 s) }

-- a message with 4 bytes
record IsMessage (slice : IpSlice) (rest : List ℕ) : Type 0 where
  enough : 4 ≤ length slice.payload.now
  after : rest ≡ drop 4 slice.payload.now

message_is : (slice : IpSlice) (rest : List ℕ) → IsMessage slice rest → BeginsWith IsIcmpLayout slice.payload.now (icmp_header slice.payload.now) rest
message_is slice rest is = record {
  front = take 4 slice.payload.now;
  whole = sym (take-append-drop 4 slice.payload.now) ∙ ap (λ r. take 4 slice.payload.now ++ r) (sym is.after);
  layout = record { len = omega (arith, length-take 4 slice.payload.now, is.enough); type_u8 = refl; code_u8 = refl; checksum = refl };
}

pub icmpv4_found : (place : ℕ) (slice : IpSlice) (view : Ipv4HeaderSlice) (rest : Bor (List ℕ)) → slice.is_later_fragment ≡ false → slice.fragment ≡ None → slice.upper ≡ 1
    → slice.header ≡ header.Ipv4 view → 4 ≤ length slice.payload.now → rest.now ≡ drop 4 slice.payload.now
    → ReadsTransport place slice (Some (transport.Icmpv4 (icmp_header slice.payload.now) rest)) None
icmpv4_found place slice view rest first alone number over enough after = found_as Icmpv4 place slice (transport.Icmpv4 (icmp_header slice.payload.now) rest)
    (record { protocol = rw (first, number, over) refl; alone = alone })
    (record { inside = Ok (icmp_header slice.payload.now, rest.now); allowed = message_is slice rest.now (record { enough = enough; after = after }); becomes = refl })

pub icmpv6_found : (place : ℕ) (slice : IpSlice) (view : Ipv6HeaderSlice) (rest : Bor (List ℕ)) → slice.is_later_fragment ≡ false → slice.fragment ≡ None → slice.upper ≡ 58
    → slice.header ≡ header.Ipv6 view → 4 ≤ length slice.payload.now → rest.now ≡ drop 4 slice.payload.now
    → ReadsTransport place slice (Some (transport.Icmpv6 (icmp_header slice.payload.now) rest)) None
icmpv6_found place slice view rest first alone number over enough after = found_as Icmpv6 place slice (transport.Icmpv6 (icmp_header slice.payload.now) rest)
    (record { protocol = rw (first, number, over) refl; alone = alone })
    (record { inside = Ok (icmp_header slice.payload.now, rest.now); allowed = message_is slice rest.now (record { enough = enough; after = after }); becomes = refl })
