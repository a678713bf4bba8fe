-- What a packet filter asks of an IPv6 packet: its upper layer, after the extension headers.
use Rattle.std.specs.Prelude.{ℕ, ◌≡◌, ◌<◌, ◌⊎◌, List, length}
use Rattle.std.specs.List.{concat}
use Rattle.etherparse.specs.ExtensionHeaderChain.{incomplete_header_error, required_len_of}
use Rattle.etherparse.specs.ExtensionHeaders.{IsSkippable}
use Rattle.etherparse.specs.Ipv6Header.{HasIpv6Chain, RefusesIpv6}
use Rattle.etherparse.specs.LenError.{len_error_moved}
use Rattle.etherparse.specs.declared.err.LenError.{LenError}
use Rattle.etherparse.specs.declared.err.ipv6.HeaderSliceError.{HeaderSliceError}
use Rattle.etherparse.specs.declared.err.ipv6.HeaderSliceError.TheVariants.{Len, Content}
use Rattle.etherparse.specs.declared.net.ipv6_header.Ipv6Header.{Ipv6Header}

-- the packet is an IPv6 header, its extension headers, and these bytes of the protocol of a number
pub record HasUpperLayer (packet : List ℕ) (number : ℕ) (bytes : List ℕ) : Type 0 where
  pub header : Ipv6Header
  pub headers : List (List ℕ)
  pub chain : HasIpv6Chain packet header headers number bytes
  pub upper : ¬ IsSkippable number

-- the packet ends within an extension header; the place in the error counts from the packet's start
pub record EndsInExtensionHeader (packet : List ℕ) (e : LenError) : Type 0 where
  pub header : Ipv6Header
  pub headers : List (List ℕ)
  pub number : ℕ
  pub rest : List ℕ
  pub chain : HasIpv6Chain packet header headers number rest
  pub skippable : IsSkippable number
  pub short : length rest < required_len_of number rest
  pub error : e ≡ len_error_moved 40 (incomplete_header_error number rest (length (concat headers)))

-- why an IPv6 packet has no upper layer: it has no header, or ends within an extension header
abbrev pub RefusesUpperLayer : List ℕ → HeaderSliceError → Type 0
RefusesUpperLayer packet (Len e) = RefusesIpv6 packet (Len e) ⊎ EndsInExtensionHeader packet e
RefusesUpperLayer packet (Content e) = RefusesIpv6 packet (Content e)
