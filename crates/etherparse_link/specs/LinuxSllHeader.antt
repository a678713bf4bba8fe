-- The header of a Linux cooked capture (LINKTYPE_LINUX_SLL).
use Rattle.std.specs.Prelude.{ℕ, ◌≡◌, List, length, slice_range, Result}
use Rattle.etherparse.specs.Bytes.{IsBytes}
use Rattle.etherparse.specs.Reading.{IsTooShort}
use Rattle.etherparse.specs.declared.err.LenError.{LenError}
use Rattle.etherparse.specs.declared.err.Layer.TheVariants as layer
use Rattle.etherparse_link.specs.Bytes.{number_at}
use Rattle.etherparse_link.specs.declared.linux_sll_header.LinuxSllHeader.{LinuxSllHeader}

-- The 16 bytes of a header, numbers in network byte order: the packet type, the ARPHRD number, the
-- length of the sender's address, 8 bytes with the address, the protocol type.
pub record IsLinuxSllLayout (header : LinuxSllHeader) (bytes : List ℕ) : Type 0 where
  pub len : length bytes ≡ 16
  pub are_bytes : IsBytes bytes
  pub packet_type : number_at 0 bytes ≡ header.packet_type
  pub arp_hrd_type : number_at 2 bytes ≡ header.arp_hrd_type
  pub sender_address_valid_length : number_at 4 bytes ≡ header.sender_address_valid_length
  pub sender_address : slice_range bytes 6 14 ≡ header.sender_address
  pub protocol_type : number_at 14 bytes ≡ header.protocol_type

-- why the front of a slice is no header: it is shorter than one
abbrev pub RefusesLinuxSll : List ℕ → LenError → Type 0
RefusesLinuxSll s e = IsTooShort layer.LinuxSllHeader 16 s e

-- a header and the bytes after it, or why there is no header
abbrev pub LinuxSllReading : Type 0
LinuxSllReading = Result (LinuxSllHeader × List ℕ) LenError
