-- The TCP header with its options (RFC 9293 section 3.1), with the NS flag of RFC 3540.
use Rattle.std.specs.Prelude.{ℕ, ◌≡◌, ◌+◌, ◌*◌, ◌/◌, ◌%◌, ◌^◌, ◌<◌, List, [], drop, length, false}
use Rattle.std.specs.Prelude.{Result, Err, slice_index, slice_range, slice_set}
use Rattle.std.specs.Int.{from_be_bytes, from_bool, w16, w32}
use Rattle.etherparse.specs.Bytes.{IsBytes}
use Rattle.etherparse.specs.Ipv4Options.{IsOptionsLen}
use Rattle.etherparse.specs.Reading.{Reads}
use Rattle.etherparse_transport.specs.Tcp.{ViewsTcp}
use Rattle.etherparse_transport.specs.declared.tcp.TcpError.{TcpError}
use Rattle.etherparse_transport.specs.declared.tcp_header.TcpHeader.{TcpHeader}

-- the length of a header in bytes: 20, and its options
abbrev pub tcp_header_len : TcpHeader → ℕ
tcp_header_len header = 20 + length header.options

-- the same in words of four bytes, as the data offset has it
abbrev pub tcp_data_offset : TcpHeader → ℕ
tcp_data_offset header = 5 + length header.options / 4

-- byte 13: the flags, from the highest bit to the lowest
abbrev pub tcp_flags : TcpHeader → ℕ
tcp_flags header = from_bool header.cwr * 2 ^ 7 + from_bool header.ece * 2 ^ 6
    + from_bool header.urg * 2 ^ 5 + from_bool header.ack * 2 ^ 4 + from_bool header.psh * 2 ^ 3
    + from_bool header.rst * 2 ^ 2 + from_bool header.syn * 2 + from_bool header.fin

-- The bytes of a header, in network byte order. Three bits of byte 12 are reserved and are not a
-- field of the header: they are given separately.
pub record IsTcpLayoutWith (header : TcpHeader) (reserved : ℕ) (bytes : List ℕ) : Type 0 where
  pub len : length bytes ≡ tcp_header_len header
  pub are_bytes : IsBytes bytes
  pub source_port : from_be_bytes w16 (slice_range bytes 0 2) ≡ header.source_port
  pub destination_port : from_be_bytes w16 (slice_range bytes 2 4) ≡ header.destination_port
  pub sequence_number : from_be_bytes w32 (slice_range bytes 4 8) ≡ header.sequence_number
  pub acknowledgment_number : from_be_bytes w32 (slice_range bytes 8 12)
      ≡ header.acknowledgment_number
  pub data_offset_ns : slice_index bytes 12
      ≡ tcp_data_offset header * 2 ^ 4 + reserved * 2 + from_bool header.ns
  pub flags : slice_index bytes 13 ≡ tcp_flags header
  pub window_size : from_be_bytes w16 (slice_range bytes 14 16) ≡ header.window_size
  pub checksum : from_be_bytes w16 (slice_range bytes 16 18) ≡ header.checksum
  pub urgent_pointer : from_be_bytes w16 (slice_range bytes 18 20) ≡ header.urgent_pointer
  pub options : drop 20 bytes ≡ header.options
  pub options_len : IsOptionsLen (length header.options)
  pub reserved_fits : reserved < 2 ^ 3

-- the bytes have the layout of the header, with any reserved bits
pub record IsTcpLayout (header : TcpHeader) (bytes : List ℕ) : Type 0 where
  pub reserved : ℕ
  pub layout : IsTcpLayoutWith header reserved bytes

-- the fact holds of each header whose layout the bytes have; there is at most one
abbrev pub OfTcpHeader : List ℕ → (TcpHeader → Type 0) → Type 0
OfTcpHeader bytes P = (header : TcpHeader) → IsTcpLayout header bytes → P header

-- the same bytes with the reserved bits 0: of byte 12 the data offset and NS are left
abbrev pub with_reserved_bits_cleared : List ℕ → List ℕ
with_reserved_bits_cleared bytes =
    slice_set bytes 12 (slice_index bytes 12 / 2 ^ 4 * 2 ^ 4 + slice_index bytes 12 % 2)

-- a header and the bytes after it, or why there is no header
abbrev pub TcpReading : Type 0
TcpReading = Result (TcpHeader × List ℕ) TcpError

-- reading: the slice begins with this header, and the rest follows; or it is refused, as it is when
-- it is viewed
abbrev pub ReadsTcp : List ℕ → TcpReading → Type 0
ReadsTcp s reading = Reads IsTcpLayout (λ s e. ViewsTcp s (Err e)) s reading

-- the header that is made with no field given: all is 0, false or empty
abbrev pub default_tcp_header : TcpHeader
default_tcp_header = record {
  source_port = 0;
  destination_port = 0;
  sequence_number = 0;
  acknowledgment_number = 0;
  ns = false;
  fin = false;
  syn = false;
  rst = false;
  psh = false;
  ack = false;
  urg = false;
  ece = false;
  cwr = false;
  window_size = 0;
  checksum = 0;
  urgent_pointer = 0;
  options = [];
}
