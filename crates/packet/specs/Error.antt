-- The errors of a header that stands further on in a frame, and their texts.
use Rattle.std.specs.Prelude.{ℕ, List}
use Rattle.etherparse.specs.Ipv4Errors.{ipv4_error_moved, ipv4_error_place}
use Rattle.etherparse.specs.Ipv6Errors.{ipv6_error_moved, ipv6_error_place}
use Rattle.etherparse.specs.LenError.{len_error_moved, len_error_text}
use Rattle.etherparse.specs.declared.LenSource.{LenSource}
use Rattle.packet.specs.Link.{link_error_text}
use Rattle.packet.specs.declared.error.SliceError.{SliceError}
use Rattle.packet.specs.declared.error.SliceError.TheVariants as error
use Rattle.packet_parts.specs.IpSlice.{ip_slice_error_text}
use Rattle.etherparse_transport.specs.Tcp.{tcp_error_text}
use Rattle.packet_parts.specs.declared.ip_slice.IpSliceError.{IpSliceError}
use Rattle.packet_parts.specs.declared.ip_slice.IpSliceError.TheVariants as ip
use Rattle.etherparse_transport.specs.declared.tcp.TcpError.{TcpError}
use Rattle.etherparse_transport.specs.declared.tcp.TcpError.TheVariants as tcp

-- where an error says that its layer starts, if it has a place
abbrev pub ip_error_place : IpSliceError → ℕ
ip_error_place (ip.Empty e) = e.layer_start_offset
ip_error_place (ip.UnexpectedVersion version) = 0
ip_error_place (ip.Ipv4Header e) = ipv4_error_place e
ip_error_place (ip.Ipv6Header e) = ipv6_error_place e
ip_error_place (ip.Packet e) = e.layer_start_offset
ip_error_place (ip.Extensions e) = e.layer_start_offset

-- the error of a packet that starts this many bytes further on
abbrev pub ip_error_moved : ℕ → IpSliceError → IpSliceError
ip_error_moved offset (ip.Empty e) = ip.Empty (len_error_moved offset e)
ip_error_moved offset (ip.UnexpectedVersion version) = ip.UnexpectedVersion version
ip_error_moved offset (ip.Ipv4Header e) = ip.Ipv4Header (ipv4_error_moved offset e)
ip_error_moved offset (ip.Ipv6Header e) = ip.Ipv6Header (ipv6_error_moved offset e)
ip_error_moved offset (ip.Packet e) = ip.Packet (len_error_moved offset e)
ip_error_moved offset (ip.Extensions e) = ip.Extensions (len_error_moved offset e)

-- the same of a TCP header
abbrev pub tcp_error_place : TcpError → ℕ
tcp_error_place (tcp.Len e) = e.layer_start_offset
tcp_error_place (tcp.DataOffset offset) = 0

abbrev pub tcp_error_moved : ℕ → TcpError → TcpError
tcp_error_moved offset (tcp.Len e) = tcp.Len (len_error_moved offset e)
tcp_error_moved offset (tcp.DataOffset data_offset) = tcp.DataOffset data_offset

-- the error of a transport header that is incomplete, since this says where the payload ends
abbrev pub error_by : LenSource → SliceError → SliceError
error_by source (error.Udp e) = error.Udp (record e { len_source = source })
error_by source (error.Tcp (tcp.Len e)) = error.Tcp (tcp.Len (record e { len_source = source }))
error_by source (error.Icmp e) = error.Icmp (record e { len_source = source })
error_by source e = e

-- the text of the error with which a frame is refused: that of its part
abbrev pub slice_error_text : SliceError → List ℕ
slice_error_text (error.Link e) = link_error_text e
slice_error_text (error.Vlan e) = len_error_text e
slice_error_text (error.Ip e) = ip_slice_error_text e
slice_error_text (error.Udp e) = len_error_text e
slice_error_text (error.Tcp e) = tcp_error_text e
slice_error_text (error.Icmp e) = len_error_text e
