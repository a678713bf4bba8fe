-- Headers that are made for what comes after them.
use Rattle.std.proofs.Common.{ℕ, ◌≡◌, ◌+◌, ◌≤◌, List, ap, arith, length, refl}
use Rattle.etherparse_transport.specs.declared.tcp_header.TcpHeader.{TcpHeader}
use Rattle.etherparse_transport.specs.declared.udp.UdpHeader.{UdpHeader}
use Rattle.packet_builder.proofs.Parts.{both, from_front}
use Rattle.packet_builder.specs.BuiltPacket.{AreHeadersBefore, HasHeaders, IsIpBefore, IsTcpChecksumOver, IsUdpChecksumOver, ether_type_of, headers_len}
use Rattle.packet_builder.specs.Writing.{WritesFront, WritesPart}
use Rattle.packet_builder.specs.declared.headers.Headers.{Headers}
use Rattle.packet_builder.specs.declared.headers.IpHeader.{IpHeader}
use Rattle.packet_builder.specs.declared.headers.IpHeader.TheVariants as ip

-- the header that is made has the version of the one that was given
pub same_ether_type : (given made : IpHeader) (protocol len : ℕ) → IsIpBefore given protocol len made → ether_type_of given ≡ ether_type_of made
same_ether_type (ip.Ipv4 given) (ip.Ipv4 made) protocol len is = refl
same_ether_type (ip.Ipv6 given) (ip.Ipv6 made) protocol len is = refl
same_ether_type (ip.Ipv4 given) (ip.Ipv6 made) protocol len is = elim is [ ]
same_ether_type (ip.Ipv6 given) (ip.Ipv4 made) protocol len is = elim is [ ]

-- and its addresses
pub same_udp_checksum : (given made : IpHeader) (protocol len : ℕ) → IsIpBefore given protocol len made → (header : UdpHeader) (payload : List ℕ) (checksum : ℕ)
    → IsUdpChecksumOver made header payload checksum → IsUdpChecksumOver given header payload checksum
same_udp_checksum (ip.Ipv4 given) (ip.Ipv4 made) protocol len is header payload checksum over = rw (ap (λ h. h.source) is.fields, ap (λ h. h.destination) is.fields, ap (λ h. h.options) is.fields) at over
same_udp_checksum (ip.Ipv6 given) (ip.Ipv6 made) protocol len is header payload checksum over = rw (ap (λ h. h.source) is, ap (λ h. h.destination) is) at over
same_udp_checksum (ip.Ipv4 given) (ip.Ipv6 made) protocol len is header payload checksum over = elim is [ ]
same_udp_checksum (ip.Ipv6 given) (ip.Ipv4 made) protocol len is header payload checksum over = elim is [ ]

pub same_tcp_checksum : (given made : IpHeader) (protocol len : ℕ) → IsIpBefore given protocol len made → (header : TcpHeader) (payload : List ℕ) (checksum : ℕ)
    → IsTcpChecksumOver made header payload checksum → IsTcpChecksumOver given header payload checksum
same_tcp_checksum (ip.Ipv4 given) (ip.Ipv4 made) protocol len is header payload checksum over = rw (ap (λ h. h.source) is.fields, ap (λ h. h.destination) is.fields, ap (λ h. h.options) is.fields) at over
same_tcp_checksum (ip.Ipv6 given) (ip.Ipv6 made) protocol len is header payload checksum over = rw (ap (λ h. h.source) is, ap (λ h. h.destination) is) at over
same_tcp_checksum (ip.Ipv4 given) (ip.Ipv6 made) protocol len is header payload checksum over = elim is [ ]
same_tcp_checksum (ip.Ipv6 given) (ip.Ipv4 made) protocol len is header payload checksum over = elim is [ ]

-- what follows the headers makes them a packet
pub written : (headers : Headers) (protocol len at end : ℕ) (old mid new upper : List ℕ) → length upper ≡ len
    → WritesPart (AreHeadersBefore headers protocol len) 0 at old mid → at ≡ headers_len headers → headers_len headers + len ≤ length old
    → WritesPart (λ bytes. bytes ≡ upper) at end mid new → end ≡ at + length upper → WritesFront (HasHeaders headers protocol upper) end old new
written headers protocol len at end old mid new upper has_len first at_is room second end_is =
    let all = both {R = HasHeaders headers protocol upper} 0 at end old mid new first second (omega (arith, end_is)) (λ p q is_p is_q. rw is_q (is_p upper has_len)) in
    from_front end old new all (omega (arith, room, has_len, at_is, end_is, all.same_len)) (λ p is. is)
