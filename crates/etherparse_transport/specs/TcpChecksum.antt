-- The checksum of a TCP segment (RFC 9293 section 3.1), with the pseudo-header of either version.
use Rattle.std.specs.Prelude.{ℕ, ◌≡◌, ◌+◌, ◌<◌, ◌^◌, List, length}
use Rattle.std.specs.Int.{to_be_bytes, w16}
use Rattle.etherparse.specs.HeaderChecksum.{with_part}
use Rattle.etherparse_transport.specs.TcpHeader.{IsTcpLayoutWith, tcp_header_len}
use Rattle.etherparse_transport.specs.TransportChecksum.{IsTcpChecksum}
use Rattle.etherparse_transport.specs.declared.tcp_header.TcpHeader.{TcpHeader}
use Rattle.packet_parts.specs.Checksum.{ipv4_pseudo_header, ipv6_pseudo_header}

-- the bytes of a header with this number for its checksum, and with the reserved bits 0
abbrev pub HasTcpBytesWith : TcpHeader → ℕ → List ℕ → Type 0
HasTcpBytesWith header checksum = IsTcpLayoutWith (record header { checksum = checksum }) 0

-- the same of a header that is seen as its bytes: bytes 16 and 17 are replaced
abbrev pub IsTcpFrontWith : List ℕ → ℕ → List ℕ → Type 0
IsTcpFrontWith front checksum bytes =
    (checksum < 2 ^ 16) × (bytes ≡ with_part 16 (to_be_bytes w16 checksum) front)

-- the checksum of this header and payload between two addresses of IPv4, from the first to the
-- second; TCP is protocol 6, and the pseudo-header has the length of both
abbrev pub IsTcpChecksumIpv4 : List ℕ → List ℕ → TcpHeader → List ℕ → ℕ → Type 0
IsTcpChecksumIpv4 source destination header payload = IsTcpChecksum (HasTcpBytesWith header)
    (ipv4_pseudo_header source destination 6 (tcp_header_len header + length payload)) payload

-- the same between two addresses of IPv6
abbrev pub IsTcpChecksumIpv6 : List ℕ → List ℕ → TcpHeader → List ℕ → ℕ → Type 0
IsTcpChecksumIpv6 source destination header payload = IsTcpChecksum (HasTcpBytesWith header)
    (ipv6_pseudo_header source destination 6 (tcp_header_len header + length payload)) payload

-- the checksum of a header that is seen as its bytes
abbrev pub IsTcpFrontChecksumIpv4 : List ℕ → List ℕ → List ℕ → List ℕ → ℕ → Type 0
IsTcpFrontChecksumIpv4 source destination front payload = IsTcpChecksum (IsTcpFrontWith front)
    (ipv4_pseudo_header source destination 6 (length front + length payload)) payload

-- the same between two addresses of IPv6
abbrev pub IsTcpFrontChecksumIpv6 : List ℕ → List ℕ → List ℕ → List ℕ → ℕ → Type 0
IsTcpFrontChecksumIpv6 source destination front payload = IsTcpChecksum (IsTcpFrontWith front)
    (ipv6_pseudo_header source destination 6 (length front + length payload)) payload
