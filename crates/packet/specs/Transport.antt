-- The transport header of an IP packet: UDP (RFC 768), TCP (RFC 9293), ICMP (RFC 792) and ICMPv6
-- (RFC 4443).
use Rattle.std.specs.Prelude.{ℕ, ◌≡◌, ◌==◌, ◌≤◌, ◌⊎◌, List, length}
use Rattle.std.specs.Prelude.{slice_index, Option, Some, None, MatchOption, Result, Ok, Err}
use Rattle.std.specs.Prelude.{drop, if◌then◌else◌, option_map}
use Rattle.std.specs.Result.{result_err, result_ok}
use Rattle.etherparse.specs.LenError.{len_error_moved}
use Rattle.etherparse.specs.Reading.{IsTooShort, Reads}
use Rattle.etherparse.specs.declared.LenSource.{LenSource}
use Rattle.etherparse.specs.declared.err.LenError.{LenError}
use Rattle.etherparse.specs.declared.err.Layer.TheVariants as layer
use Rattle.etherparse_transport.specs.Tcp.{ViewsTcp}
use Rattle.etherparse_transport.specs.Udp.{ReadsUdp, UdpReading}
use Rattle.packet_parts.specs.IpSlice.{payload_end_of}
use Rattle.packet_parts.specs.declared.fragment.Fragment.{Fragment}
use Rattle.packet_parts.specs.declared.ip_slice.IpHeaderSlice.{IpHeaderSlice}
use Rattle.packet_parts.specs.declared.ip_slice.IpHeaderSlice.TheVariants as header
use Rattle.packet_parts.specs.declared.ip_slice.IpSlice.{IpSlice}
use Rattle.etherparse_transport.specs.declared.tcp.TcpError.{TcpError}
use Rattle.etherparse_transport.specs.declared.udp.UdpHeader.{UdpHeader}
use Rattle.etherparse_link.specs.Bytes.{number_at}
use Rattle.packet.specs.Error.{error_by, tcp_error_moved}
use Rattle.packet.specs.declared.error.SliceError.{SliceError}
use Rattle.packet.specs.declared.error.SliceError.TheVariants as error
use Rattle.packet.specs.declared.transport.IcmpHeader.{IcmpHeader}
use Rattle.packet.specs.declared.transport.Protocol.{Protocol}
use Rattle.packet.specs.declared.transport.Protocol.TheVariants as protocol
use Rattle.packet.specs.declared.transport.TransportSlice.{TransportSlice}
use Rattle.packet.specs.declared.transport.TransportSlice.TheVariants as transport

-- the protocol of a number, with that of ICMP
abbrev pub protocol_with : ℕ → Protocol → ℕ → Option Protocol
protocol_with icmp_number icmp number =
    if number == 17 then Some protocol.Udp
    else if number == 6 then Some protocol.Tcp
    else if number == icmp_number then Some icmp
    else None

-- the protocol of a number over the version of this header: ICMP over IPv4, and ICMPv6 over IPv6
abbrev pub protocol_over : IpHeaderSlice → ℕ → Option Protocol
protocol_over (header.Ipv4 view) = protocol_with 1 protocol.Icmpv4
protocol_over (header.Ipv6 view) = protocol_with 58 protocol.Icmpv6

-- the protocol of the payload of a packet, which begins with no header if it is of a later fragment
abbrev pub protocol_of : IpSlice → Option Protocol
protocol_of slice =
    if slice.is_later_fragment then None else protocol_over slice.header slice.upper

-- the 4 bytes that all messages of ICMP and ICMPv6 begin with
pub record IsIcmpLayout (header : IcmpHeader) (bytes : List ℕ) : Type 0 where
  pub len : length bytes ≡ 4
  pub type_u8 : header.type_u8 ≡ slice_index bytes 0
  pub code_u8 : header.code_u8 ≡ slice_index bytes 1
  pub checksum : header.checksum ≡ number_at 2 bytes

-- a transport header and what follows it, apart from where they lie in memory
pub data TransportParts : Type 0 where
  UdpParts : UdpHeader → List ℕ → TransportParts
  TcpParts : List ℕ → List ℕ → TransportParts
  Icmpv4Parts : IcmpHeader → List ℕ → TransportParts
  Icmpv6Parts : IcmpHeader → List ℕ → TransportParts

abbrev pub transport_parts : TransportSlice → TransportParts
transport_parts (transport.Udp header rest) = UdpParts header rest.now
transport_parts (transport.Tcp header rest) = TcpParts header.slice.now rest.now
transport_parts (transport.Icmpv4 header rest) = Icmpv4Parts header rest.now
transport_parts (transport.Icmpv6 header rest) = Icmpv6Parts header rest.now

-- a transport header and what follows it, or why it is incomplete
abbrev pub TransportReading : Type 0
TransportReading = Result TransportParts SliceError

-- the reading of UDP, of TCP and of ICMP as that of a payload at a place in a frame
abbrev pub udp_reading : ℕ → UdpReading → TransportReading
udp_reading place (Ok x) = Ok (UdpParts x.0 x.1)
udp_reading place (Err e) = Err (error.Udp (len_error_moved place e))

abbrev pub tcp_reading : ℕ → List ℕ → Result (List ℕ) TcpError → TransportReading
tcp_reading place payload (Ok front) = Ok (TcpParts front (drop (length front) payload))
tcp_reading place payload (Err e) = Err (error.Tcp (tcp_error_moved place e))

abbrev pub icmp_reading : (IcmpHeader → List ℕ → TransportParts) → ℕ
    → Result (IcmpHeader × List ℕ) LenError → TransportReading
icmp_reading parts place (Ok x) = Ok (parts x.0 x.1)
icmp_reading parts place (Err e) = Err (error.Icmp (len_error_moved place e))

-- the reading is what becomes of one that is allowed
pub record ReadsAs {A : Type 0} (Allowed : A → Type 0) (become : A → TransportReading)
    (reading : TransportReading) : Type 0 where
  pub inside : A
  pub allowed : Allowed inside
  pub becomes : reading ≡ become inside

-- reading the header of a protocol at the front of a payload at a place
abbrev pub ReadsHeader : Protocol → ℕ → List ℕ → TransportReading → Type 0
ReadsHeader protocol.Udp place payload = ReadsAs (ReadsUdp payload) (udp_reading place)
ReadsHeader protocol.Tcp place payload = ReadsAs (ViewsTcp payload) (tcp_reading place payload)
ReadsHeader protocol.Icmpv4 place payload =
    ReadsAs (Reads IsIcmpLayout (IsTooShort layer.Icmpv4 4) payload)
    (icmp_reading Icmpv4Parts place)
ReadsHeader protocol.Icmpv6 place payload =
    ReadsAs (Reads IsIcmpLayout (IsTooShort layer.Icmpv6 4) payload)
    (icmp_reading Icmpv6Parts place)

-- That a header is not read is no error in a first fragment. Elsewhere it is; if the header is
-- incomplete, that is since the packet's length field says where the payload ends.
abbrev pub missing_in : LenSource → Option Fragment → TransportReading → Option SliceError
missing_in source None reading = option_map (error_by source) (result_err reading)
missing_in source (Some fragment) reading = None

-- a header of this protocol is read at the front of a payload, if that is not of a later fragment
pub record ReadsPayload (read : Protocol) (place : ℕ) (slice : IpSlice)
    (found : Option TransportSlice) (missing : Option SliceError) : Type 0 where
  pub reading : TransportReading
  pub reads : ReadsHeader read place slice.payload.now reading
  pub finds : option_map transport_parts found ≡ result_ok reading
  pub misses : missing ≡ missing_in (payload_end_of slice.header) slice.fragment reading

-- The transport header of a payload at a place, and the error of one that is incomplete. There is
-- neither if the protocol is another one, or if the payload is of a later fragment.
abbrev pub ReadsTransport : ℕ → IpSlice → Option TransportSlice → Option SliceError → Type 0
ReadsTransport place slice found missing = MatchOption (protocol_of slice)
    ((found ≡ None) × (missing ≡ None)) (λ read. ReadsPayload read place slice found missing)

-- The ports of a packet: the first four bytes of its payload (RFC 768, RFC 9293 section 3.1). They
-- are there in a first fragment or a cut packet without the whole header too.
pub record HasPorts (slice : IpSlice) (ports : ℕ × ℕ) : Type 0 where
  pub protocol : (protocol_of slice ≡ Some protocol.Udp) ⊎ (protocol_of slice ≡ Some protocol.Tcp)
  pub enough : 4 ≤ length slice.payload.now
  pub source : ports.0 ≡ number_at 0 slice.payload.now
  pub destination : ports.1 ≡ number_at 2 slice.payload.now
