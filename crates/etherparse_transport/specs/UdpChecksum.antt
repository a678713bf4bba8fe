-- The checksum of a UDP datagram (RFC 768), with the pseudo-header of either IP version.
use Rattle.std.specs.Prelude.{ℕ, ◌+◌, List, ◌++◌}
use Rattle.etherparse_transport.specs.TransportChecksum.{IsUdpChecksum}
use Rattle.etherparse_transport.specs.Udp.{IsUdpLayout}
use Rattle.etherparse_transport.specs.declared.udp.UdpHeader.{UdpHeader}
use Rattle.packet_parts.specs.Checksum.{IsRightIpv4, IsRightIpv6, ipv4_pseudo_header}
use Rattle.packet_parts.specs.Checksum.{ipv6_pseudo_header}

-- the bytes of a header with this number for its checksum
abbrev pub HasUdpBytesWith : UdpHeader → ℕ → List ℕ → Type 0
HasUdpBytesWith header checksum = IsUdpLayout (record header { checksum = checksum })

-- the checksum of this header and payload between two addresses of IPv4, from the first to the
-- second; UDP is protocol 17, and its length field counts in the pseudo-header too
abbrev pub IsUdpChecksumIpv4 : List ℕ → List ℕ → UdpHeader → List ℕ → ℕ → Type 0
IsUdpChecksumIpv4 source destination header = IsUdpChecksum (HasUdpBytesWith header)
    (ipv4_pseudo_header source destination 17 header.length)

-- the same between two addresses of IPv6
abbrev pub IsUdpChecksumIpv6 : List ℕ → List ℕ → UdpHeader → List ℕ → ℕ → Type 0
IsUdpChecksumIpv6 source destination header = IsUdpChecksum (HasUdpBytesWith header)
    (ipv6_pseudo_header source destination 17 header.length)

-- the header with this checksum, and the payload, are a datagram whose checksum a receiver finds
-- right, between two addresses of IPv4: the pseudo-header has the length of both
abbrev pub IsRightDatagramIpv4 : List ℕ → List ℕ → UdpHeader → List ℕ → ℕ → Type 0
IsRightDatagramIpv4 source destination header payload checksum = (bytes : List ℕ)
    → HasUdpBytesWith header checksum bytes → IsRightIpv4 source destination 17 (bytes ++ payload)

-- the same between two addresses of IPv6, where a datagram has to have a checksum
abbrev pub IsRightDatagramIpv6 : List ℕ → List ℕ → UdpHeader → List ℕ → ℕ → Type 0
IsRightDatagramIpv6 source destination header payload checksum = (bytes : List ℕ)
    → HasUdpBytesWith header checksum bytes → IsRightIpv6 source destination 17 (bytes ++ payload)

-- a header for a payload of this length in bytes, with no checksum: the length field counts the 8
-- bytes of the header too
abbrev pub udp_header_for : ℕ → ℕ → ℕ → UdpHeader
udp_header_for source_port destination_port payload_len = record {
  source_port = source_port;
  destination_port = destination_port;
  length = 8 + payload_len;
  checksum = 0;
}
