-- What the end of a tunnel asks: an IPv4 packet within an IPv4 packet (RFC 2003), with or without a
-- GRE header between (RFC 2784).
use Rattle.std.specs.Prelude.{ℕ, ◌≡◌, ◌≢◌, ◌-◌, ◌⊎◌, List, length}
use Rattle.std.specs.Prelude.{Option, Some, None, Result, Ok, Err}
use Rattle.etherparse.specs.Ipv4Errors.{ipv4_error_moved}
use Rattle.etherparse.specs.Ipv4Header.{IsFragment, IsIpv4Layout, RefusesIpv4, ipv4_header_len}
use Rattle.etherparse.specs.Reading.{BeginsWith}
use Rattle.etherparse.specs.declared.err.ipv4.HeaderSliceError.{HeaderSliceError}
use Rattle.etherparse.specs.declared.net.ipv4_header.Ipv4Header.{Ipv4Header}
use Rattle.uses.specs.Gre.{IsGreLayout, RefusesGre, gre_error_moved}
use Rattle.uses.specs.declared.gre.GreError.{GreError}
use Rattle.uses.specs.declared.gre.GreHeader.{GreHeader}
use Rattle.uses.specs.declared.tunnel.TunnelError.{TunnelError}
use Rattle.uses.specs.declared.tunnel.TunnelError.TheVariants as error

-- The packet carries a whole IPv4 packet, by its header: the protocol is 4, and it is no fragment
-- (RFC 2003 section 3.1).
pub record CarriesIpv4 (packet : List ℕ) (outer : Ipv4Header) (payload : List ℕ) : Type 0 where
  pub begins : BeginsWith IsIpv4Layout packet outer payload
  pub protocol : outer.protocol ≡ 4
  pub is_whole : ¬ IsFragment outer

-- the header that follows the first one, and the bytes after it
pub record HasInnerIpv4 (packet : List ℕ) (inner : Ipv4Header) (rest : List ℕ) : Type 0 where
  pub outer : Ipv4Header
  pub payload : List ℕ
  pub carries : CarriesIpv4 packet outer payload
  pub follows : BeginsWith IsIpv4Layout payload inner rest

-- the packet carries none: it is of another protocol, or a fragment
pub record HasNoInnerIpv4 (packet : List ℕ) : Type 0 where
  pub outer : Ipv4Header
  pub payload : List ℕ
  pub begins : BeginsWith IsIpv4Layout packet outer payload
  pub why : (outer.protocol ≢ 4) ⊎ IsFragment outer

-- no header follows the first one; the place of the error is that in the whole packet
pub record RefusesInside (packet : List ℕ) (e : HeaderSliceError) : Type 0 where
  pub outer : Ipv4Header
  pub payload : List ℕ
  pub carries : CarriesIpv4 packet outer payload
  pub inside : HeaderSliceError
  pub refused : RefusesIpv4 payload inside
  pub moved : e ≡ ipv4_error_moved (ipv4_header_len outer) inside

-- why the header inside is not read: there is none outside, or none follows it
abbrev pub RefusesInnerIpv4 : List ℕ → HeaderSliceError → Type 0
RefusesInnerIpv4 packet e = RefusesIpv4 packet e ⊎ RefusesInside packet e

-- the header says that a whole GRE packet follows it
abbrev pub IsOfGre : Ipv4Header → Type 0
IsOfGre outer = (outer.protocol ≡ 47) × ¬ IsFragment outer

-- a GRE header follows an IPv4 header, and these bytes follow both
pub record HasGre (packet : List ℕ) (gre : GreHeader) (inside : List ℕ) : Type 0 where
  pub outer : Ipv4Header
  pub payload : List ℕ
  pub begins : BeginsWith IsIpv4Layout packet outer payload
  pub of_gre : IsOfGre outer
  pub follows : BeginsWith IsGreLayout payload gre inside

-- what there is inside of a packet; the place of an error is that in the whole packet
pub data TellsInGre (packet : List ℕ)
    : Result (Option (Ipv4Header × List ℕ)) TunnelError → Type 0 where
  no_ipv4 : (e : HeaderSliceError) → RefusesIpv4 packet e → TellsInGre packet (Err (error.Ipv4 e))
  not_gre : (outer : Ipv4Header) (payload : List ℕ) → BeginsWith IsIpv4Layout packet outer payload
      → ¬ IsOfGre outer → TellsInGre packet (Ok None)
  no_gre : (outer : Ipv4Header) (payload : List ℕ) (e : GreError)
      → BeginsWith IsIpv4Layout packet outer payload → IsOfGre outer → RefusesGre payload e
      → TellsInGre packet (Err (error.Gre (gre_error_moved (ipv4_header_len outer) e)))
  not_ipv4 : (gre : GreHeader) (inside : List ℕ) → HasGre packet gre inside
      → gre.protocol_type ≢ 2048 → TellsInGre packet (Ok None)
  no_inner : (gre : GreHeader) (inside : List ℕ) (e : HeaderSliceError) → HasGre packet gre inside
      → gre.protocol_type ≡ 2048 → RefusesIpv4 inside e → TellsInGre packet
      (Err (error.Ipv4 (ipv4_error_moved (length packet - length inside) e)))
  inner : (gre : GreHeader) (inside : List ℕ) (header : Ipv4Header) (rest : List ℕ)
      → HasGre packet gre inside → gre.protocol_type ≡ 2048
      → BeginsWith IsIpv4Layout inside header rest → TellsInGre packet (Ok (Some (header, rest)))
