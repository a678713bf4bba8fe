-- What the fragments of one packet have in common (RFC 791 section 3.2, RFC 8200 section 4.5).
use Rattle.std.specs.Prelude.{ℕ, ◌≡◌, ◌==◌, ◌⊎◌, Bool, List, Option, Some, None}
use Rattle.std.specs.Prelude.{if◌then◌else◌}
use Rattle.etherparse.specs.Ipv4Header.{IsFragment, IsIpv4Layout}
use Rattle.etherparse.specs.Ipv6Header.{IsIpv6Layout, RefusesIpv6}
use Rattle.etherparse.specs.LenError.{len_error_moved}
use Rattle.etherparse.specs.Reading.{BeginsWith}
use Rattle.etherparse.specs.declared.err.LenError.{LenError}
use Rattle.etherparse.specs.declared.err.Layer.TheVariants as layer
use Rattle.etherparse.specs.declared.err.ipv6.HeaderSliceError.{HeaderSliceError}
use Rattle.etherparse.specs.declared.err.ipv6.HeaderSliceError.TheVariants.{Len, Content}
use Rattle.etherparse.specs.declared.net.ipv4_header.Ipv4Header.{Ipv4Header}
use Rattle.etherparse.specs.declared.net.ipv6_header.Ipv6Header.{Ipv6Header}
use Rattle.packet_parts.specs.Extensions.{EndsAs}
use Rattle.etherparse_net.specs.declared.ipv6_fragment_header.Ipv6FragmentHeader.{
  Ipv6FragmentHeader,
}
use Rattle.packet_parts.specs.declared.fragment_key.Ipv4Key.{Ipv4Key}
use Rattle.packet_parts.specs.declared.fragment_key.Ipv6Key.{Ipv6Key}

-- the packet is a fragment, and this is the key of all fragments of its packet
pub record HasIpv4Key (packet : List ℕ) (key : Ipv4Key) : Type 0 where
  pub header : Ipv4Header
  pub rest : List ℕ
  pub begins : BeginsWith IsIpv4Layout packet header rest
  pub is_fragment : IsFragment header
  pub key_of : key ≡ record {
    source = header.source;
    destination = header.destination;
    protocol = header.protocol;
    identification = header.identification;
  }

-- the packet is whole, no fragment
pub record IsWholeIpv4 (packet : List ℕ) : Type 0 where
  pub header : Ipv4Header
  pub rest : List ℕ
  pub begins : BeginsWith IsIpv4Layout packet header rest
  pub is_whole : ¬ IsFragment header

-- the packet is an IPv6 header and extension headers, the last of which can be incomplete, and of
-- which this fragment header decides
pub record HasExtensions (packet : List ℕ) (header : Ipv6Header) (incomplete : Option LenError)
    (decided : Option Ipv6FragmentHeader) : Type 0 where
  pub body : List ℕ
  pub begins : BeginsWith IsIpv6Layout packet header body
  pub is_later : Bool
  pub number : ℕ
  pub rest : List ℕ
  pub ends : EndsAs is_later incomplete body header.next_header decided number rest

-- the packet is a fragment, and this is the key of all fragments of its packet: its fragment header
-- that decides tells it
pub record HasIpv6Key (packet : List ℕ) (key : Ipv6Key) : Type 0 where
  pub header : Ipv6Header
  pub incomplete : Option LenError
  pub fragment : Ipv6FragmentHeader
  pub has : HasExtensions packet header incomplete (Some fragment)
  pub key_of : key ≡ record {
    source = header.source;
    destination = header.destination;
    identification = fragment.identification;
  }

-- The packet is whole, no fragment, as far as headers that can be skipped tell: it has no fragment
-- header, or atomic ones alone.
pub record IsWholeIpv6 (packet : List ℕ) : Type 0 where
  pub header : Ipv6Header
  pub has : HasExtensions packet header None None

-- the error of an extension header of this number that is incomplete: of a fragment header it says
-- so
abbrev pub undecided_error : ℕ → LenError → LenError
undecided_error number e =
    if number == 44 then record e { required_len = 8; layer = layer.Ipv6FragHeader } else e

-- The packet is an IPv6 header and ends within an extension header, with none before it that
-- decides. The place in the error counts from the packet's start.
pub record EndsUndecided (packet : List ℕ) (e : LenError) : Type 0 where
  pub header : Ipv6Header
  pub inside : LenError
  pub has : HasExtensions packet header (Some inside) None
  pub moved : e ≡ len_error_moved 40 (undecided_error has.number inside)

-- why it is not told whether a packet is a fragment: there is no IPv6 header, or an incomplete
-- header after it
abbrev pub RefusesIpv6Key : List ℕ → HeaderSliceError → Type 0
RefusesIpv6Key packet (Len e) = RefusesIpv6 packet (Len e) ⊎ EndsUndecided packet e
RefusesIpv6Key packet (Content e) = RefusesIpv6 packet (Content e)
