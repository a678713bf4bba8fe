-- The errors of the library as C has them: as numbers.
use Rattle.std.specs.Prelude.{ℕ, Option, Some, None}
use Rattle.etherparse.specs.declared.LenSource.{LenSource}
use Rattle.etherparse.specs.declared.LenSource.TheVariants as source
use Rattle.etherparse.specs.declared.err.Layer.{Layer}
use Rattle.etherparse.specs.declared.err.Layer.TheVariants as layer
use Rattle.etherparse.specs.declared.err.LenError.{LenError}
use Rattle.etherparse.specs.declared.err.ValueType.{ValueType}
use Rattle.etherparse.specs.declared.err.ValueType.TheVariants as value
use Rattle.etherparse.specs.declared.err.ipv4.HeaderError.TheVariants as ipv4_content
use Rattle.etherparse.specs.declared.err.ipv4.HeaderSliceError as ipv4
use Rattle.etherparse.specs.declared.err.ipv4.HeaderSliceError.TheVariants as ipv4_slice
use Rattle.etherparse.specs.declared.err.ipv6.HeaderError.TheVariants as ipv6_content
use Rattle.etherparse.specs.declared.err.ipv6.HeaderSliceError as ipv6
use Rattle.etherparse.specs.declared.err.ipv6.HeaderSliceError.TheVariants as ipv6_slice
use Rattle.etherparse.specs.declared.err.ipv6.ChainError as ipv6_chain
use Rattle.etherparse.specs.declared.err.ipv6.ChainError.TheVariants as chain
use Rattle.packet.specs.declared.error.SliceError.{SliceError}
use Rattle.packet.specs.declared.error.SliceError.TheVariants as slice
use Rattle.packet.specs.declared.link.LinkError.{LinkError}
use Rattle.packet_parts.specs.declared.ip_slice.IpSliceError.{IpSliceError}
use Rattle.packet_parts.specs.declared.ip_slice.IpSliceError.TheVariants as ip
use Rattle.etherparse_transport.specs.declared.tcp.TcpError.{TcpError}
use Rattle.etherparse_transport.specs.declared.tcp.TcpError.TheVariants as tcp
use Rattle.c_answers.specs.declared.error.Error.{Error}

-- no error
abbrev pub no_error : Error
no_error = record {
  kind = 0;
  number = 0;
  layer = 0;
  required_len = 0;
  len = 0;
  layer_start_offset = 0;
  limit = 0;
}

-- the layers that the errors of the calls are about, and 0 for all others
abbrev pub layer_in_c : Layer → ℕ
layer_in_c layer.Ipv4Header = 1
layer_in_c layer.Ipv4Packet = 2
layer_in_c layer.Ipv6Header = 3
layer_in_c layer.Ipv6ExtHeader = 4
layer_in_c layer.VlanHeader = 6
layer_in_c layer.IpHeader = 7
layer_in_c layer.Ipv6Packet = 9
layer_in_c layer.UdpHeader = 10
layer_in_c layer.TcpHeader = 11
layer_in_c layer.Icmpv4 = 12
layer_in_c layer.Icmpv6 = 13
layer_in_c _ = 0

-- where the lengths in the errors of the calls come from, and 3 for all others
abbrev pub source_in_c : LenSource → ℕ
source_in_c source.Slice = 0
source_in_c source.Ipv4HeaderTotalLen = 1
source_in_c source.Ipv6HeaderPayloadLen = 2
source_in_c _ = 3

-- the layer, the required length, the actual one and where that comes from, and the offset
abbrev pub len_error_in_c : LenError → Error
len_error_in_c e = record no_error {
  kind = 1;
  number = source_in_c e.len_source;
  layer = layer_in_c e.layer;
  required_len = e.required_len;
  len = e.len;
  layer_start_offset = e.layer_start_offset;
}

-- of an IPv4 reader: a length, an unexpected version, or an IHL that is too small
abbrev pub ipv4_error_in_c : ipv4.HeaderSliceError → Error
ipv4_error_in_c (ipv4_slice.Len e) = len_error_in_c e
ipv4_error_in_c (ipv4_slice.Content (ipv4_content.UnexpectedVersion version)) =
    record no_error { kind = 2; number = version; layer = 1 }
ipv4_error_in_c (ipv4_slice.Content (ipv4_content.HeaderLengthSmallerThanHeader ihl)) =
    record no_error { kind = 3; number = ihl; layer = 1 }

-- of an IPv6 reader: a length, or an unexpected version
abbrev pub ipv6_error_in_c : ipv6.HeaderSliceError → Error
ipv6_error_in_c (ipv6_slice.Len e) = len_error_in_c e
ipv6_error_in_c (ipv6_slice.Content (ipv6_content.UnexpectedVersion version)) =
    record no_error { kind = 2; number = version; layer = 3 }

-- of a walk past extension headers: a length, or one header more than the limit
abbrev pub chain_error_in_c : ipv6_chain.ChainError → Error
chain_error_in_c (chain.Len e) = len_error_in_c e
chain_error_in_c (chain.TooMany limit next from) =
    record no_error { kind = 4; number = next; layer = 4; layer_start_offset = from; limit = limit }

-- the values that can be too big, and 0 for all others
abbrev pub value_in_c : ValueType → ℕ
value_in_c value.IpFragmentOffset = 1
value_in_c value.IpDscp = 2
value_in_c value.IpEcn = 3
value_in_c value.Ipv6FlowLabel = 4
value_in_c value.Ipv4PayloadLength = 5
value_in_c value.Ipv6PayloadLength = 6
value_in_c _ = 0

-- ---- why a frame is not read further

-- the frame ends within its link header
abbrev pub link_error_in_c : LinkError → Error
link_error_in_c e =
    record no_error { kind = 1; layer = 5; required_len = e.required_len; len = e.len }

-- The layer of an IP packet with a wrong length. That of an IPv4 packet has two numbers: one if its
-- total length is too small, and one if there are fewer bytes than that says.
abbrev pub ip_packet_layer_in_c : LenSource → Layer → ℕ
ip_packet_layer_in_c source.Slice layer.Ipv4Packet = 8
ip_packet_layer_in_c source l = layer_in_c l

-- of an IP packet
abbrev pub ip_error_in_c : IpSliceError → Error
ip_error_in_c (ip.Empty e) = len_error_in_c e
ip_error_in_c (ip.UnexpectedVersion version) =
    record no_error { kind = 2; number = version; layer = 7 }
ip_error_in_c (ip.Ipv4Header e) = ipv4_error_in_c e
ip_error_in_c (ip.Ipv6Header e) = ipv6_error_in_c e
ip_error_in_c (ip.Packet e) =
    record (len_error_in_c e) { layer = ip_packet_layer_in_c e.len_source e.layer }
ip_error_in_c (ip.Extensions e) = len_error_in_c e

-- of a TCP header: a length, or a data offset that is too small
abbrev pub tcp_error_in_c : TcpError → Error
tcp_error_in_c (tcp.Len e) = len_error_in_c e
tcp_error_in_c (tcp.DataOffset offset) = record no_error { kind = 7; number = offset; layer = 11 }

-- of a frame, by the layer that it is about
abbrev pub slice_error_in_c : SliceError → Error
slice_error_in_c (slice.Link e) = link_error_in_c e
slice_error_in_c (slice.Vlan e) = len_error_in_c e
slice_error_in_c (slice.Ip e) = ip_error_in_c e
slice_error_in_c (slice.Udp e) = len_error_in_c e
slice_error_in_c (slice.Tcp e) = tcp_error_in_c e
slice_error_in_c (slice.Icmp e) = len_error_in_c e

abbrev pub stop_in_c : Option SliceError → Error
stop_in_c None = no_error
stop_in_c (Some e) = slice_error_in_c e

-- frames of the link type of this number are not read
abbrev pub link_type_error : ℕ → Error
link_type_error number = record no_error { kind = 8; len = number }
