-- The header of a message of ICMPv6 (RFC 4443 section 2.1, and RFC 4861 section 4 for the types
-- from 133 on): type, code, checksum, and 4 bytes whose meaning is of the type.
use Rattle.std.specs.Prelude.{ℕ, ◌≡◌, List, [], ◌∷◌, drop, length, Result, slice_index}
use Rattle.std.specs.Prelude.{slice_range}
use Rattle.std.specs.Int.{from_be_bytes, w16, w32}
use Rattle.etherparse.specs.Bytes.{IsBytes}
use Rattle.etherparse.specs.Reading.{IsTooShort, Reads}
use Rattle.etherparse.specs.declared.err.LenError.{LenError}
use Rattle.etherparse.specs.declared.err.Layer.TheVariants as layer
use Rattle.etherparse_icmp.specs.Advertisements.{HasNeighborAdvertisement, HasRouterAdvertisement}
use Rattle.etherparse_icmp.specs.Advertisements.{neighbor_advertisement_cleared}
use Rattle.etherparse_icmp.specs.Advertisements.{router_advertisement_cleared}
use Rattle.etherparse_icmp.specs.IcmpEcho.{HasEcho}
use Rattle.etherparse_icmp.specs.Icmpv6Codes.{dest_unreachable_number, parameter_problem_number}
use Rattle.etherparse_icmp.specs.Icmpv6Codes.{time_exceeded_number}
use Rattle.etherparse_icmp.specs.declared.icmpv6_header.Icmpv6Header.{Icmpv6Header}
use Rattle.etherparse_icmp.specs.declared.icmpv6_type.Icmpv6Type.{Icmpv6Type}
use Rattle.etherparse_icmp.specs.declared.icmpv6_type.Icmpv6Type.TheVariants.{Unknown}
use Rattle.etherparse_icmp.specs.declared.icmpv6_type.Icmpv6Type.TheVariants.{
  DestinationUnreachable,
}
use Rattle.etherparse_icmp.specs.declared.icmpv6_type.Icmpv6Type.TheVariants.{PacketTooBig}
use Rattle.etherparse_icmp.specs.declared.icmpv6_type.Icmpv6Type.TheVariants.{TimeExceeded}
use Rattle.etherparse_icmp.specs.declared.icmpv6_type.Icmpv6Type.TheVariants.{ParameterProblem}
use Rattle.etherparse_icmp.specs.declared.icmpv6_type.Icmpv6Type.TheVariants.{EchoRequest}
use Rattle.etherparse_icmp.specs.declared.icmpv6_type.Icmpv6Type.TheVariants.{EchoReply}
use Rattle.etherparse_icmp.specs.declared.icmpv6_type.Icmpv6Type.TheVariants.{RouterSolicitation}
use Rattle.etherparse_icmp.specs.declared.icmpv6_type.Icmpv6Type.TheVariants.{RouterAdvertisement}
use Rattle.etherparse_icmp.specs.declared.icmpv6_type.Icmpv6Type.TheVariants.{NeighborSolicitation}
use Rattle.etherparse_icmp.specs.declared.icmpv6_type.Icmpv6Type.TheVariants.{
  NeighborAdvertisement,
}
use Rattle.etherparse_icmp.specs.declared.icmpv6_type.Icmpv6Type.TheVariants.{Redirect}

-- the number of the type
abbrev pub icmpv6_type_number : Icmpv6Type → ℕ
icmpv6_type_number (Unknown type_u8 code_u8 bytes5to8) = type_u8
icmpv6_type_number (DestinationUnreachable code) = 1
icmpv6_type_number (PacketTooBig mtu) = 2
icmpv6_type_number (TimeExceeded code) = 3
icmpv6_type_number (ParameterProblem header) = 4
icmpv6_type_number (EchoRequest echo) = 128
icmpv6_type_number (EchoReply echo) = 129
icmpv6_type_number RouterSolicitation = 133
icmpv6_type_number (RouterAdvertisement header) = 134
icmpv6_type_number NeighborSolicitation = 135
icmpv6_type_number (NeighborAdvertisement header) = 136
icmpv6_type_number Redirect = 137

-- the number of the code
abbrev pub icmpv6_code_number : Icmpv6Type → ℕ
icmpv6_code_number (Unknown type_u8 code_u8 bytes5to8) = code_u8
icmpv6_code_number (DestinationUnreachable code) = dest_unreachable_number code
icmpv6_code_number (PacketTooBig mtu) = 0
icmpv6_code_number (TimeExceeded code) = time_exceeded_number code
icmpv6_code_number (ParameterProblem header) = parameter_problem_number header.code
icmpv6_code_number (EchoRequest echo) = 0
icmpv6_code_number (EchoReply echo) = 0
icmpv6_code_number RouterSolicitation = 0
icmpv6_code_number (RouterAdvertisement header) = 0
icmpv6_code_number NeighborSolicitation = 0
icmpv6_code_number (NeighborAdvertisement header) = 0
icmpv6_code_number Redirect = 0

-- what the 4 bytes after the checksum say; some types do not use them
abbrev pub HasIcmpv6Rest : Icmpv6Type → List ℕ → Type 0
HasIcmpv6Rest (Unknown type_u8 code_u8 bytes5to8) rest = rest ≡ bytes5to8
HasIcmpv6Rest (DestinationUnreachable code) rest = Unit {0}
HasIcmpv6Rest (PacketTooBig mtu) rest = from_be_bytes w32 rest ≡ mtu
HasIcmpv6Rest (TimeExceeded code) rest = Unit {0}
HasIcmpv6Rest (ParameterProblem header) rest = from_be_bytes w32 rest ≡ header.pointer
HasIcmpv6Rest (EchoRequest echo) rest = HasEcho echo rest
HasIcmpv6Rest (EchoReply echo) rest = HasEcho echo rest
HasIcmpv6Rest RouterSolicitation rest = Unit {0}
HasIcmpv6Rest (RouterAdvertisement header) rest = HasRouterAdvertisement header rest
HasIcmpv6Rest NeighborSolicitation rest = Unit {0}
HasIcmpv6Rest (NeighborAdvertisement header) rest = HasNeighborAdvertisement header rest
HasIcmpv6Rest Redirect rest = Unit {0}

-- The same bytes with those 0 that the type does not use here. Other standards use some: for a
-- length in the types 1 and 3 (RFC 4884), and in a router advertisement for flags (RFC 4191, RFC
-- 6275).
abbrev pub icmpv6_cleared : Icmpv6Type → List ℕ → List ℕ
icmpv6_cleared (DestinationUnreachable code) rest = 0 ∷ 0 ∷ 0 ∷ 0 ∷ []
icmpv6_cleared (TimeExceeded code) rest = 0 ∷ 0 ∷ 0 ∷ 0 ∷ []
icmpv6_cleared RouterSolicitation rest = 0 ∷ 0 ∷ 0 ∷ 0 ∷ []
icmpv6_cleared (RouterAdvertisement header) rest = router_advertisement_cleared rest
icmpv6_cleared NeighborSolicitation rest = 0 ∷ 0 ∷ 0 ∷ 0 ∷ []
icmpv6_cleared (NeighborAdvertisement header) rest = neighbor_advertisement_cleared rest
icmpv6_cleared Redirect rest = 0 ∷ 0 ∷ 0 ∷ 0 ∷ []
icmpv6_cleared icmp_type rest = rest

-- a message of these numbers, with these 4 bytes, is of the type
pub record SaysIcmpv6 (type_number code_number : ℕ) (rest : List ℕ) (icmp_type : Icmpv6Type)
    : Type 0 where
  pub type_is : icmpv6_type_number icmp_type ≡ type_number
  pub code_is : icmpv6_code_number icmp_type ≡ code_number
  pub rest_is : HasIcmpv6Rest icmp_type rest

-- the 8 bytes of a message of this type with this checksum
pub record HasIcmpv6Bytes (icmp_type : Icmpv6Type) (checksum : ℕ) (bytes : List ℕ)
    : Type 0 where
  pub len : length bytes ≡ 8
  pub are_bytes : IsBytes bytes
  pub says : SaysIcmpv6 (slice_index bytes 0) (slice_index bytes 1) (drop 4 bytes) icmp_type
  pub checksum_is : from_be_bytes w16 (slice_range bytes 2 4) ≡ checksum

-- the same with the bytes that are not used 0
pub record IsIcmpv6Written (icmp_type : Icmpv6Type) (checksum : ℕ) (bytes : List ℕ)
    : Type 0 where
  pub layout : HasIcmpv6Bytes icmp_type checksum bytes
  pub unused : drop 4 bytes ≡ icmpv6_cleared icmp_type (drop 4 bytes)

-- the type has a name
abbrev pub HasIcmpv6Name : Icmpv6Type → Type 0
HasIcmpv6Name (Unknown type_u8 code_u8 bytes5to8) = ⊥
HasIcmpv6Name icmp_type = Unit {0}

-- no type that has a name has these numbers
abbrev pub AreIcmpv6Unnamed : ℕ → ℕ → Type 0
AreIcmpv6Unnamed type_number code_number = (named : Icmpv6Type) → HasIcmpv6Name named
    → icmpv6_type_number named ≡ type_number → icmpv6_code_number named ≡ code_number → ⊥

-- a type as it is read: unknown only where no type that has a name has its numbers
abbrev pub IsIcmpv6AsRead : Icmpv6Type → Type 0
IsIcmpv6AsRead (Unknown type_u8 code_u8 bytes5to8) = AreIcmpv6Unnamed type_u8 code_u8
IsIcmpv6AsRead icmp_type = Unit {0}

-- the bytes of a header, as they are read
pub record IsIcmpv6Layout (header : Icmpv6Header) (bytes : List ℕ) : Type 0 where
  pub layout : HasIcmpv6Bytes header.icmp_type header.checksum bytes
  pub as_read : IsIcmpv6AsRead header.icmp_type

-- a header and the bytes after it, or why there is no header
abbrev pub Icmpv6Reading : Type 0
Icmpv6Reading = Result (Icmpv6Header × List ℕ) LenError

-- reading: the front of the slice is this header, and the rest follows; or the slice is too short
abbrev pub ReadsIcmpv6 : List ℕ → Icmpv6Reading → Type 0
ReadsIcmpv6 s reading = Reads IsIcmpv6Layout (IsTooShort layer.Icmpv6 8) s reading
