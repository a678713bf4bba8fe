-- The header of a message of ICMP (RFC 792): type, code, checksum, and bytes whose meaning is of
-- the type, 16 of a timestamp message and 4 of any other.
use Rattle.std.specs.Prelude.{ℕ, ◌≡◌, ◌==◌, ◌≤◌, ◌⊎◌, List, [], ◌∷◌, drop, if◌then◌else◌, length}
use Rattle.std.specs.Prelude.{Result, slice_index, slice_range}
use Rattle.std.specs.Int.{from_be_bytes, w16}
use Rattle.etherparse.specs.Bytes.{IsBytes}
use Rattle.etherparse.specs.Reading.{IsTooShort, Reads}
use Rattle.etherparse.specs.declared.err.LenError.{LenError}
use Rattle.etherparse.specs.declared.err.Layer.{Layer}
use Rattle.etherparse.specs.declared.err.Layer.TheVariants as layer
use Rattle.etherparse_icmp.specs.IcmpEcho.{HasEcho}
use Rattle.etherparse_icmp.specs.IcmpTimestamps.{HasTimestamps}
use Rattle.etherparse_icmp.specs.Icmpv4Codes.{IsNextHopMtu, IsPointer, dest_unreachable_number}
use Rattle.etherparse_icmp.specs.Icmpv4Codes.{parameter_problem_number, problem_cleared}
use Rattle.etherparse_icmp.specs.Icmpv4Codes.{redirect_number, time_exceeded_number}
use Rattle.etherparse_icmp.specs.Icmpv4Codes.{unreachable_cleared}
use Rattle.etherparse_icmp.specs.declared.icmpv4_header.Icmpv4Header.{Icmpv4Header}
use Rattle.etherparse_icmp.specs.declared.icmpv4_type.Icmpv4Type.{Icmpv4Type}
use Rattle.etherparse_icmp.specs.declared.icmpv4_type.Icmpv4Type.TheVariants.{Unknown, EchoReply}
use Rattle.etherparse_icmp.specs.declared.icmpv4_type.Icmpv4Type.TheVariants.{
  DestinationUnreachable,
}
use Rattle.etherparse_icmp.specs.declared.icmpv4_type.Icmpv4Type.TheVariants.{Redirect, EchoRequest}
use Rattle.etherparse_icmp.specs.declared.icmpv4_type.Icmpv4Type.TheVariants.{TimeExceeded}
use Rattle.etherparse_icmp.specs.declared.icmpv4_type.Icmpv4Type.TheVariants.{ParameterProblem}
use Rattle.etherparse_icmp.specs.declared.icmpv4_type.Icmpv4Type.TheVariants.{TimestampRequest}
use Rattle.etherparse_icmp.specs.declared.icmpv4_type.Icmpv4Type.TheVariants.{TimestampReply}

-- the number of the type
abbrev pub icmpv4_type_number : Icmpv4Type → ℕ
icmpv4_type_number (Unknown type_u8 code_u8 bytes5to8) = type_u8
icmpv4_type_number (EchoReply echo) = 0
icmpv4_type_number (DestinationUnreachable header) = 3
icmpv4_type_number (Redirect header) = 5
icmpv4_type_number (EchoRequest echo) = 8
icmpv4_type_number (TimeExceeded code) = 11
icmpv4_type_number (ParameterProblem header) = 12
icmpv4_type_number (TimestampRequest message) = 13
icmpv4_type_number (TimestampReply message) = 14

-- the number of the code
abbrev pub icmpv4_code_number : Icmpv4Type → ℕ
icmpv4_code_number (Unknown type_u8 code_u8 bytes5to8) = code_u8
icmpv4_code_number (EchoReply echo) = 0
icmpv4_code_number (DestinationUnreachable header) = dest_unreachable_number header
icmpv4_code_number (Redirect header) = redirect_number header.code
icmpv4_code_number (EchoRequest echo) = 0
icmpv4_code_number (TimeExceeded code) = time_exceeded_number code
icmpv4_code_number (ParameterProblem header) = parameter_problem_number header
icmpv4_code_number (TimestampRequest message) = 0
icmpv4_code_number (TimestampReply message) = 0

-- the length of the header, in bytes
abbrev pub icmpv4_len : Icmpv4Type → ℕ
icmpv4_len (TimestampRequest message) = 20
icmpv4_len (TimestampReply message) = 20
icmpv4_len icmp_type = 8

-- the same by the numbers of the type and of the code: 13 and 14, with the code 0, are the
-- timestamp messages
abbrev pub icmpv4_len_of : ℕ → ℕ → ℕ
icmpv4_len_of type_number code_number = if code_number == 0 then (if type_number == 13 then 20
    else if type_number == 14 then 20 else 8) else 8

-- what the bytes after the checksum say, as far as the type uses them
abbrev pub HasIcmpv4Rest : Icmpv4Type → List ℕ → Type 0
HasIcmpv4Rest (Unknown type_u8 code_u8 bytes5to8) rest = rest ≡ bytes5to8
HasIcmpv4Rest (EchoReply echo) rest = HasEcho echo rest
HasIcmpv4Rest (DestinationUnreachable header) rest =
    IsNextHopMtu header (from_be_bytes w16 (slice_range rest 2 4))
HasIcmpv4Rest (Redirect header) rest = rest ≡ header.gateway_internet_address
HasIcmpv4Rest (EchoRequest echo) rest = HasEcho echo rest
HasIcmpv4Rest (TimeExceeded code) rest = Unit {0}
HasIcmpv4Rest (ParameterProblem header) rest = IsPointer header (slice_index rest 0)
HasIcmpv4Rest (TimestampRequest message) rest = HasTimestamps message rest
HasIcmpv4Rest (TimestampReply message) rest = HasTimestamps message rest

-- The same bytes with those 0 that the type does not use: a sender has to have them so, but for the
-- length that RFC 4884 puts there in the types 3, 11 and 12.
abbrev pub icmpv4_cleared : Icmpv4Type → List ℕ → List ℕ
icmpv4_cleared (DestinationUnreachable header) rest = unreachable_cleared header rest
icmpv4_cleared (TimeExceeded code) rest = 0 ∷ 0 ∷ 0 ∷ 0 ∷ []
icmpv4_cleared (ParameterProblem header) rest = problem_cleared header rest
icmpv4_cleared icmp_type rest = rest

-- a message of these numbers, with these bytes after the checksum, is of the type
pub record SaysIcmpv4 (type_number code_number : ℕ) (rest : List ℕ) (icmp_type : Icmpv4Type)
    : Type 0 where
  pub type_is : icmpv4_type_number icmp_type ≡ type_number
  pub code_is : icmpv4_code_number icmp_type ≡ code_number
  pub rest_is : HasIcmpv4Rest icmp_type rest

-- the bytes of the header of a message of this type with this checksum
pub record HasIcmpv4Bytes (icmp_type : Icmpv4Type) (checksum : ℕ) (bytes : List ℕ)
    : Type 0 where
  pub len : length bytes ≡ icmpv4_len icmp_type
  pub are_bytes : IsBytes bytes
  pub says : SaysIcmpv4 (slice_index bytes 0) (slice_index bytes 1) (drop 4 bytes) icmp_type
  pub checksum_is : from_be_bytes w16 (slice_range bytes 2 4) ≡ checksum

-- the same with the bytes that are not used 0
pub record IsIcmpv4Written (icmp_type : Icmpv4Type) (checksum : ℕ) (bytes : List ℕ)
    : Type 0 where
  pub layout : HasIcmpv4Bytes icmp_type checksum bytes
  pub unused : drop 4 bytes ≡ icmpv4_cleared icmp_type (drop 4 bytes)

-- the type has a name
abbrev pub HasIcmpv4Name : Icmpv4Type → Type 0
HasIcmpv4Name (Unknown type_u8 code_u8 bytes5to8) = ⊥
HasIcmpv4Name icmp_type = Unit {0}

-- no type that has a name has these numbers
abbrev pub AreIcmpv4Unnamed : ℕ → ℕ → Type 0
AreIcmpv4Unnamed type_number code_number = (named : Icmpv4Type) → HasIcmpv4Name named
    → icmpv4_type_number named ≡ type_number → icmpv4_code_number named ≡ code_number → ⊥

-- a type as it is read: unknown only where no type that has a name has its numbers
abbrev pub IsIcmpv4AsRead : Icmpv4Type → Type 0
IsIcmpv4AsRead (Unknown type_u8 code_u8 bytes5to8) = AreIcmpv4Unnamed type_u8 code_u8
IsIcmpv4AsRead icmp_type = Unit {0}

-- the bytes of a header, as they are read
pub record IsIcmpv4Layout (header : Icmpv4Header) (bytes : List ℕ) : Type 0 where
  pub layout : HasIcmpv4Bytes header.icmp_type header.checksum bytes
  pub as_read : IsIcmpv4AsRead header.icmp_type

-- the slice begins with these two numbers of a timestamp message, and ends before its 20 bytes
pub record IsShortTimestamp (type_number : ℕ) (layer : Layer) (s : List ℕ) (e : LenError)
    : Type 0 where
  pub enough : 8 ≤ length s
  pub type_is : slice_index s 0 ≡ type_number
  pub code_is : slice_index s 1 ≡ 0
  pub short : IsTooShort layer 20 s e

-- why the front of a slice is no header: it is shorter than any, or than a timestamp message or its
-- reply, which it begins
abbrev pub RefusesIcmpv4 : List ℕ → LenError → Type 0
RefusesIcmpv4 s e = IsTooShort layer.Icmpv4 8 s e
    ⊎ IsShortTimestamp 13 layer.Icmpv4Timestamp s e
    ⊎ IsShortTimestamp 14 layer.Icmpv4TimestampReply s e

-- a header and the bytes after it, or why there is no header
abbrev pub Icmpv4Reading : Type 0
Icmpv4Reading = Result (Icmpv4Header × List ℕ) LenError

-- reading: the front of the slice is this header, and the rest follows; or the slice is too short
abbrev pub ReadsIcmpv4 : List ℕ → Icmpv4Reading → Type 0
ReadsIcmpv4 s reading = Reads IsIcmpv4Layout RefusesIcmpv4 s reading
