-- The header of a Linux cooked capture of version 2 (LINKTYPE_LINUX_SLL2).
use Rattle.std.specs.Prelude.{ℕ, ◌≡◌, List, length, slice_index, slice_range, Result}
use Rattle.std.specs.Int.{from_be_bytes, w32}
use Rattle.etherparse.specs.Bytes.{IsBytes}
use Rattle.etherparse.specs.Reading.{IsTooShort}
use Rattle.etherparse.specs.declared.err.LenError.{LenError}
use Rattle.etherparse.specs.declared.err.Layer.TheVariants as layer
use Rattle.etherparse_link.specs.Bytes.{number_at}
use Rattle.etherparse_link.specs.declared.linux_sll2_header.LinuxSll2Header.{LinuxSll2Header}

-- The 20 bytes of a header, numbers in network byte order: the protocol type, two reserved bytes,
-- the interface index, the ARPHRD number, the packet type, the length of the sender's address, 8
-- bytes with the address. What is reserved is not a field, and can have any value.
pub record IsLinuxSll2Layout (header : LinuxSll2Header) (bytes : List ℕ) : Type 0 where
  pub len : length bytes ≡ 20
  pub are_bytes : IsBytes bytes
  pub protocol_type : number_at 0 bytes ≡ header.protocol_type
  pub interface_index : from_be_bytes w32 (slice_range bytes 4 8) ≡ header.interface_index
  pub arp_hrd_type : number_at 8 bytes ≡ header.arp_hrd_type
  pub packet_type : slice_index bytes 10 ≡ header.packet_type
  pub sender_address_valid_length : slice_index bytes 11 ≡ header.sender_address_valid_length
  pub sender_address : slice_range bytes 12 20 ≡ header.sender_address

-- the reserved bytes, which a header that is written has as 0
abbrev pub reserved_of : List ℕ → ℕ
reserved_of bytes = number_at 2 bytes

-- why the front of a slice is no header: it is shorter than one
abbrev pub RefusesLinuxSll2 : List ℕ → LenError → Type 0
RefusesLinuxSll2 s e = IsTooShort layer.LinuxSllHeader 20 s e

-- a header and the bytes after it, or why there is no header
abbrev pub LinuxSll2Reading : Type 0
LinuxSll2Reading = Result (LinuxSll2Header × List ℕ) LenError
