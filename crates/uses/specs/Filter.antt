-- What a packet filter asks of a packet.
use Rattle.std.specs.Prelude.{ℕ, ◌≡◌, ◌≢◌, ◌+◌, ◌<◌, ◌≤◌, ◌/◌, ◌^◌, ◌⊎◌, List, length}
use Rattle.std.specs.Prelude.{slice_range}
use Rattle.std.specs.Int.{from_be_bytes, w16}
use Rattle.etherparse.specs.Ipv4Header.{IsIpv4Layout, IsFragment, ipv4_header_len}
use Rattle.etherparse.specs.Ipv6Header.{IsIpv6Layout, RefusesIpv6}
use Rattle.etherparse.specs.Reading.{BeginsWith}
use Rattle.etherparse.specs.declared.err.ipv6.HeaderSliceError.{HeaderSliceError}
use Rattle.etherparse.specs.declared.net.ipv4_header.Ipv4Header.{Ipv4Header}
use Rattle.etherparse.specs.declared.net.ipv6_header.Ipv6Header.{Ipv6Header}

-- A UDP packet over IPv4 that is no fragment, with this destination port (RFC 768): its ports are
-- there, and within its total length.
pub record HasUdpPort (packet : List ℕ) (port : ℕ) : Type 0 where
  pub header : Ipv4Header
  pub rest : List ℕ
  pub begins : BeginsWith IsIpv4Layout packet header rest
  pub is_udp : header.protocol ≡ 17
  pub is_whole : ¬ IsFragment header
  pub within : ipv4_header_len header + 4 ≤ header.total_len
  pub enough : 4 ≤ length rest
  pub found : from_be_bytes w16 (slice_range rest 2 4) ≡ port

-- an IPv4 packet of another protocol, a fragment, or one that ends before its ports, by its total
-- length or by its bytes
pub record HasNoUdpPort (packet : List ℕ) : Type 0 where
  pub header : Ipv4Header
  pub rest : List ℕ
  pub begins : BeginsWith IsIpv4Layout packet header rest
  pub why : (header.protocol ≢ 17) ⊎ IsFragment header
      ⊎ (header.total_len < ipv4_header_len header + 4) ⊎ (length rest < 4)

-- an IPv4 header of this DSCP and destination
pub record IsIpv4For (class : ℕ) (address : List ℕ) (header : Ipv4Header) : Type 0 where
  pub dscp : header.dscp ≡ class
  pub destination : header.destination ≡ address

-- an IPv6 header of this DSCP and destination
pub record IsIpv6For (class : ℕ) (address : List ℕ) (header : Ipv6Header) : Type 0 where
  pub dscp : header.traffic_class / 2 ^ 2 ≡ class
  pub destination : header.destination ≡ address

-- the packet begins with an IPv6 header of which the fact holds
pub record StartsWithIpv6 (packet : List ℕ) (P : Ipv6Header → Type 0) : Type 0 where
  pub header : Ipv6Header
  pub rest : List ℕ
  pub begins : BeginsWith IsIpv6Layout packet header rest
  pub holds : P header

-- the packet begins with no IPv6 header
pub record IsRefusedIpv6 (packet : List ℕ) : Type 0 where
  pub error : HeaderSliceError
  pub refused : RefusesIpv6 packet error
