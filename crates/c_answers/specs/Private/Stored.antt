-- What is stored of a frame layer by layer. No public clause cites it.
use Rattle.std.specs.Prelude.{ℕ, ◌≡◌, ◌≢◌, ◌+◌, ◌≤◌, List, drop, length, slice_index}
use Rattle.std.specs.Prelude.{Option, Some, None, Ok}
use Rattle.etherparse_link.specs.Bytes.{number_at}
use Rattle.etherparse_transport.specs.Tcp.{ViewsTcp}
use Rattle.etherparse_transport.specs.Udp.{ReadsUdp}
use Rattle.packet.specs.Network.{HasNetwork}
use Rattle.packet.specs.Transport.{ReadsAs, TransportReading}
use Rattle.packet.specs.Transport.{tcp_reading, transport_parts, udp_reading}
use Rattle.packet.specs.declared.transport.TransportSlice.{TransportSlice}
use Rattle.packet_parts.specs.IpSlice.{header_len_of}
use Rattle.packet_parts.specs.declared.ip_slice.IpHeaderSlice.{IpHeaderSlice}
use Rattle.packet_parts.specs.declared.ip_slice.IpHeaderSlice.TheVariants as version
use Rattle.packet_parts.specs.declared.ip_slice.IpSlice.{IpSlice}
use Rattle.c_answers.specs.Layers.{ArePorts, header_at, icmp_at, ip_parts_in_c, no_transport}
use Rattle.c_answers.specs.Layers.{with_ports}
use Rattle.c_answers.specs.declared.packet_layers.PacketIp.{PacketIp}
use Rattle.c_answers.specs.declared.packet_layers.PacketTransport.{PacketTransport}

-- reading the header of TCP, or of UDP, at the front of a payload at a place
abbrev pub reads_tcp : ℕ → List ℕ → TransportReading → Type 0
reads_tcp place payload = ReadsAs (ViewsTcp payload) (tcp_reading place payload)

abbrev pub reads_udp : ℕ → List ℕ → TransportReading → Type 0
reads_udp place payload = ReadsAs (ReadsUdp payload) (udp_reading place)

-- a whole header is read at the front of a payload at a place, and C gets it with its ports
pub record HasPortsInC (Reads : TransportReading → Type 0) (place : ℕ) (payload : List ℕ)
    (in_c : PacketTransport) : Type 0 where
  pub found : TransportSlice
  pub reads : Reads (Ok (transport_parts found))
  pub enough : 4 ≤ length payload
  pub value : in_c ≡ with_ports (Some (number_at 0 payload, number_at 2 payload))
      (header_at place (Some found))

-- the number of ICMP over the version of this header
abbrev pub icmp_over : IpHeaderSlice → ℕ
icmp_over (version.Ipv4 view) = 1
icmp_over (version.Ipv6 view) = 58

-- C gets the header of a message at a place, if ICMP has the number of the payload, or else none
pub record HasOtherInC (place upper icmp : ℕ) (payload : List ℕ) (in_c : PacketTransport)
    : Type 0 where
  pub enough : upper ≡ icmp → 4 ≤ length payload
  pub message : upper ≡ icmp → in_c
      ≡ icmp_at place upper (slice_index payload 0) (slice_index payload 1) (drop 4 payload)
  pub none : upper ≢ icmp → in_c ≡ no_transport

-- nothing stops the reading of the IP packet at a place, and C gets it and its transport header
pub record HasNetworkInC (place : ℕ) (packet : List ℕ) (ip_in_c : PacketIp)
    (transport_in_c : PacketTransport) : Type 0 where
  pub slice : IpSlice
  pub transport : Option TransportSlice
  pub network : HasNetwork place packet (Some slice) transport None
  pub ports : Option (ℕ × ℕ)
  pub are_ports : ArePorts (Some slice) ports
  pub ip_value : ip_in_c ≡ ip_parts_in_c place (length packet) slice
  pub transport_value : transport_in_c
      ≡ with_ports ports (header_at (place + header_len_of slice) transport)
