-- The header of an Ethernet frame (IEEE 802.3 section 3.1.1).
use Rattle.std.specs.Prelude.{ℕ, ◌≡◌, List, length, slice_range, Result}
use Rattle.etherparse.specs.Bytes.{IsBytes}
use Rattle.etherparse.specs.Reading.{IsTooShort}
use Rattle.etherparse.specs.declared.err.LenError.{LenError}
use Rattle.etherparse.specs.declared.err.Layer.TheVariants as layer
use Rattle.etherparse_link.specs.Bytes.{number_at}
use Rattle.etherparse_link.specs.declared.ethernet2_header.Ethernet2Header.{Ethernet2Header}

-- the 14 bytes of a header: the destination address, the source address, the EtherType
pub record IsEthernet2Layout (header : Ethernet2Header) (bytes : List ℕ) : Type 0 where
  pub len : length bytes ≡ 14
  pub are_bytes : IsBytes bytes
  pub destination : slice_range bytes 0 6 ≡ header.destination
  pub source : slice_range bytes 6 12 ≡ header.source
  pub ether_type : number_at 12 bytes ≡ header.ether_type

-- why the front of a slice is no header: it is shorter than one
abbrev pub RefusesEthernet2 : List ℕ → LenError → Type 0
RefusesEthernet2 s e = IsTooShort layer.Ethernet2Header 14 s e

-- a header and the bytes after it, or why there is no header
abbrev pub Ethernet2Reading : Type 0
Ethernet2Reading = Result (Ethernet2Header × List ℕ) LenError
