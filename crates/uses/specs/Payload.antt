-- What a capture reader asks of a packet.
use Rattle.std.specs.Prelude.{ℕ, ◌≡◌, ◌+◌, ◌<◌, ◌⊎◌, List, length, min, take}
use Rattle.etherparse.specs.Ipv4Header.{IsIpv4Layout, RefusesIpv4, ipv4_header_len}
use Rattle.etherparse.specs.Ipv6Header.{IsIpv6Layout}
use Rattle.etherparse.specs.Reading.{BeginsWith}
use Rattle.etherparse.specs.declared.err.LenError.{LenError}
use Rattle.etherparse.specs.declared.err.ipv4.HeaderSliceError.{HeaderSliceError}
use Rattle.etherparse.specs.declared.err.ipv4.HeaderSliceError.TheVariants.{Len, Content}
use Rattle.etherparse.specs.declared.net.ipv4_header.Ipv4Header.{Ipv4Header}
use Rattle.etherparse.specs.declared.net.ipv6_header.Ipv6Header.{Ipv6Header}
use Rattle.packet_parts.specs.IpSlice.{StatesTooLittle}

-- what follows an IPv4 header, as far as its total length says and the capture has it
pub record HasIpv4Payload (packet payload : List ℕ) : Type 0 where
  pub header : Ipv4Header
  pub rest : List ℕ
  pub begins : BeginsWith IsIpv4Layout packet header rest
  pub len : ℕ
  pub says : ipv4_header_len header + len ≡ header.total_len
  pub cut : payload ≡ take (min len (length rest)) rest

-- why an IPv4 packet has no payload: it has no header, or its total length is too small for one
abbrev pub RefusesIpv4Payload : List ℕ → HeaderSliceError → Type 0
RefusesIpv4Payload packet (Len e) = RefusesIpv4 packet (Len e) ⊎ StatesTooLittle packet e
RefusesIpv4Payload packet (Content e) = RefusesIpv4 packet (Content e)

-- what follows an IPv6 header, as far as its payload length says and the capture has it
pub record HasIpv6Payload (packet payload : List ℕ) : Type 0 where
  pub header : Ipv6Header
  pub rest : List ℕ
  pub begins : BeginsWith IsIpv6Layout packet header rest
  pub cut : payload ≡ take (min header.payload_length (length rest)) rest

-- a packet with this many more bytes is as long as its IPv4 header needs, as far as can be said now
pub record IsShortBy (count : ℕ) (packet : List ℕ) : Type 0 where
  pub error : LenError
  pub refused : RefusesIpv4 packet (Len error)
  pub short : length packet + count ≡ error.required_len
  pub some : 0 < count
