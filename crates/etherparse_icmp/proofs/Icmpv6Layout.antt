-- The layout of a header of ICMPv6: bytes have one header, and a header has one list of bytes.
use Rattle.std.proofs.Common.{take, take-append-drop, ℕ, ◌≡◌, ◌==◌, ◌⊎◌, List, [], ◌∷◌, ◌++◌}
use Rattle.std.proofs.Common.{length, length-drop, drop, if◌then◌else◌, inl, inr, ap, arith, refl}
use Rattle.std.proofs.Common.{rules, sym, subst, ◌∙◌, w16, w32}
use Rattle.std.specs.Int.{from_be_bytes, to_be_bytes}
use Rattle.std.proofs.lemmas.Nat.{be_bytes_4}
use Rattle.std.proofs.lemmas.Grind.{common_steps}
use Rattle.etherparse.proofs.Fronts.{TellsHeaders, fixed_tells}
use Rattle.etherparse.proofs.Layouts.{from_be_bytes-lt, told, u16, u8}
use Rattle.etherparse.proofs.Parts.{same_append}
use Rattle.etherparse.specs.Bytes.{IsBytes}
use Rattle.etherparse.specs.Reading.{IsTooShort}
use Rattle.etherparse.specs.WordSums.{little_endian_word_sum}
use Rattle.etherparse.specs.declared.err.Layer.TheVariants as layer
use Rattle.etherparse_icmp.proofs.Advertisements.{neighbor_of, neighbor_rest, neighbor_spelled}
use Rattle.etherparse_icmp.proofs.Advertisements.{neighbor_told, router_of, router_rest}
use Rattle.etherparse_icmp.proofs.Advertisements.{router_spelled, router_told}
use Rattle.etherparse_icmp.proofs.Checksums.{HasWords}
use Rattle.etherparse_icmp.proofs.Rests.{drop_is_bytes, echo_of, echo_spelled, echo_told}
use Rattle.etherparse_icmp.specs.Icmpv6.{HasIcmpv6Bytes, HasIcmpv6Name, HasIcmpv6Rest}
use Rattle.etherparse_icmp.specs.Icmpv6.{IsIcmpv6Layout, IsIcmpv6AsRead, IsIcmpv6Written}
use Rattle.etherparse_icmp.specs.Icmpv6.{SaysIcmpv6}
use Rattle.etherparse_icmp.specs.Icmpv6.{icmpv6_cleared, icmpv6_code_number, icmpv6_type_number}
use Rattle.etherparse_icmp.specs.Icmpv6Codes.{dest_unreachable_number, parameter_problem_number}
use Rattle.etherparse_icmp.specs.Icmpv6Codes.{time_exceeded_number}
use Rattle.etherparse_icmp.specs.declared.icmpv6.unreachable.DestUnreachableCode.{DestUnreachableCode}
use Rattle.etherparse_icmp.specs.declared.icmpv6.unreachable.DestUnreachableCode.TheVariants
    as unreachable
use Rattle.etherparse_icmp.specs.declared.icmpv6.problem_code.ParameterProblemCode.{ParameterProblemCode}
use Rattle.etherparse_icmp.specs.declared.icmpv6.problem_code.ParameterProblemCode.TheVariants
    as problem
use Rattle.etherparse_icmp.specs.declared.icmpv6.time_exceeded_code.TimeExceededCode.{TimeExceededCode}
use Rattle.etherparse_icmp.specs.declared.icmpv6.time_exceeded_code.TimeExceededCode.TheVariants
    as exceeded
use Rattle.etherparse_icmp.specs.declared.icmpv6_header.Icmpv6Header.{Icmpv6Header}
use Rattle.etherparse_icmp.specs.declared.icmpv6_type.Icmpv6Type.{Icmpv6Type}
use Rattle.etherparse_icmp.specs.declared.icmpv6_type.Icmpv6Type.TheVariants as icmp

-- a code by its number
abbrev unreachable_code : ℕ → DestUnreachableCode
unreachable_code n = if n == 0 then unreachable.NoRoute else if n == 1 then unreachable.Prohibited
    else if n == 2 then unreachable.BeyondScope
    else if n == 3 then unreachable.Address else if n == 4 then unreachable.Port
    else if n == 5 then unreachable.SourceAddressFailedPolicy
    else unreachable.RejectRoute

unreachable_told : (code : DestUnreachableCode)
    → unreachable_code (dest_unreachable_number code) ≡ code
unreachable_told code = grind (arith, common_steps)

abbrev exceeded_code : ℕ → TimeExceededCode
exceeded_code n = if n == 0 then exceeded.HopLimitExceeded
    else exceeded.FragmentReassemblyTimeExceeded

exceeded_told : (code : TimeExceededCode) → exceeded_code (time_exceeded_number code) ≡ code
exceeded_told code = grind (arith, common_steps)

abbrev problem_code : ℕ → ParameterProblemCode
problem_code n = if n == 0 then problem.ErroneousHeaderField
    else if n == 1 then problem.UnrecognizedNextHeader
    else if n == 2 then problem.UnrecognizedIpv6Option
    else if n == 3 then problem.Ipv6FirstFragmentIncompleteHeaderChain
    else if n == 4 then problem.SrUpperLayerHeaderError
    else if n == 5 then problem.UnrecognizedNextHeaderByIntermediateNode
    else if n == 6 then problem.ExtensionHeaderTooBig
    else if n == 7 then problem.ExtensionHeaderChainTooLong
    else if n == 8 then problem.TooManyExtensionHeaders
    else if n == 9 then problem.TooManyOptionsInExtensionHeader else problem.OptionTooBig

problem_told : (code : ParameterProblemCode) → problem_code (parameter_problem_number code) ≡ code
problem_told code = grind (arith, common_steps)

-- a type that has a name, by its numbers and the bytes after the checksum
abbrev type_of : ℕ → ℕ → List ℕ → Icmpv6Type
type_of n code rest = if n == 1 then icmp.DestinationUnreachable (unreachable_code code)
    else if n == 2 then icmp.PacketTooBig (from_be_bytes w32 rest)
    else if n == 3 then icmp.TimeExceeded (exceeded_code code)
    else if n == 4 then icmp.ParameterProblem
    (record { code = problem_code code; pointer = from_be_bytes w32 rest })
    else if n == 128 then icmp.EchoRequest (echo_of rest) else if n == 129 then icmp.EchoReply (echo_of rest)
    else if n == 133 then icmp.RouterSolicitation
    else if n == 134 then icmp.RouterAdvertisement (router_of rest)
    else if n == 135 then icmp.NeighborSolicitation
    else if n == 136 then icmp.NeighborAdvertisement (neighbor_of rest) else icmp.Redirect

-- a type has a name and is told by its numbers, or it is unknown
told_by_numbers : (t : Icmpv6Type) (rest : List ℕ) → HasIcmpv6Rest t rest
    → (HasIcmpv6Name t × (type_of (icmpv6_type_number t) (icmpv6_code_number t) rest ≡ t))
    ⊎ (icmp.Unknown (icmpv6_type_number t) (icmpv6_code_number t) rest ≡ t)
told_by_numbers (icmp.Unknown n code bytes) rest h = inr (ap (icmp.Unknown n code) h)
told_by_numbers (icmp.DestinationUnreachable code) rest h =
    inl (tt, ap icmp.DestinationUnreachable (unreachable_told code))
told_by_numbers (icmp.PacketTooBig mtu) rest h = inl (tt, ap icmp.PacketTooBig h)
told_by_numbers (icmp.TimeExceeded code) rest h =
    inl (tt, ap icmp.TimeExceeded (exceeded_told code))
told_by_numbers (icmp.ParameterProblem header) rest h =
    inl (tt, ap icmp.ParameterProblem (search (rules, h, problem_told header.code)))
told_by_numbers (icmp.EchoRequest echo) rest h =
    inl (tt, ap icmp.EchoRequest (echo_told echo rest h))
told_by_numbers (icmp.EchoReply echo) rest h = inl (tt, ap icmp.EchoReply (echo_told echo rest h))
told_by_numbers icmp.RouterSolicitation rest h = inl (tt, refl)
told_by_numbers (icmp.RouterAdvertisement header) rest h =
    inl (tt, ap icmp.RouterAdvertisement (router_told header rest h))
told_by_numbers icmp.NeighborSolicitation rest h = inl (tt, refl)
told_by_numbers (icmp.NeighborAdvertisement header) rest h =
    inl (tt, ap icmp.NeighborAdvertisement (neighbor_told header rest h))
told_by_numbers icmp.Redirect rest h = inl (tt, refl)

-- an unknown type does not have the numbers of one that has a name
not_unknown : (n code : ℕ) (rest : List ℕ) (t named : Icmpv6Type) → icmp.Unknown n code rest ≡ t
    → IsIcmpv6AsRead t → HasIcmpv6Name named → SaysIcmpv6 n code rest named → ⊥
not_unknown n code rest t named e told name says =
    (subst IsIcmpv6AsRead (sym e) told) named name says.type_is says.code_is

-- numbers and bytes are of one type
same_type : (n code : ℕ) (rest : List ℕ) (g h : Icmpv6Type) → SaysIcmpv6 n code rest g
    → SaysIcmpv6 n code rest h → IsIcmpv6AsRead g → IsIcmpv6AsRead h → g ≡ h
same_type n code rest g h k l g_told h_told =
    which (rw (k.type_is, k.code_is) at (told_by_numbers g rest k.rest_is))
    (rw (l.type_is, l.code_is) at (told_by_numbers h rest l.rest_is)) where
      which : (HasIcmpv6Name g × (type_of n code rest ≡ g)) ⊎ (icmp.Unknown n code rest ≡ g)
          → (HasIcmpv6Name h × (type_of n code rest ≡ h)) ⊎ (icmp.Unknown n code rest ≡ h) → g ≡ h
      which (inl a) (inl b) = sym a.1 ∙ b.1
      which (inl a) (inr b) = absurd (not_unknown n code rest h g b h_told a.0 k)
      which (inr a) (inl b) = absurd (not_unknown n code rest g h a g_told b.0 l)
      which (inr a) (inr b) = sym a ∙ b

same_header : (g h : Icmpv6Header) (p : List ℕ) → IsIcmpv6Layout g p → IsIcmpv6Layout h p → g ≡ h
same_header g h p k l =
    let icmp_type =
    same_type _ _ _ g.icmp_type h.icmp_type k.layout.says l.layout.says k.as_read l.as_read in
    let checksum = sym k.layout.checksum_is ∙ l.layout.checksum_is in
    search (rules, icmp_type, checksum)

pub tells_headers : TellsHeaders IsIcmpv6Layout (IsTooShort layer.Icmpv6 8)
tells_headers = fixed_tells IsIcmpv6Layout layer.Icmpv6 8 same_header (λ h p l. l.layout.len)

-- the 4 bytes after the checksum of a type, those that are not used 0
abbrev rest_of : Icmpv6Type → List ℕ
rest_of (icmp.Unknown n code bytes) = bytes
rest_of (icmp.PacketTooBig mtu) = to_be_bytes w32 mtu
rest_of (icmp.ParameterProblem header) = to_be_bytes w32 header.pointer
rest_of (icmp.EchoRequest echo) = to_be_bytes w16 echo.id ++ to_be_bytes w16 echo.seq
rest_of (icmp.EchoReply echo) = to_be_bytes w16 echo.id ++ to_be_bytes w16 echo.seq
rest_of (icmp.RouterAdvertisement header) = router_rest header
rest_of (icmp.NeighborAdvertisement header) = neighbor_rest header
rest_of icmp_type = 0 ∷ 0 ∷ 0 ∷ 0 ∷ []

cleared_spelled : (t : Icmpv6Type) (rest : List ℕ) → length rest ≡ 4 → IsBytes rest
    → HasIcmpv6Rest t rest → icmpv6_cleared t rest ≡ rest_of t
cleared_spelled (icmp.Unknown n code b) rest len bytes h = h
cleared_spelled (icmp.PacketTooBig mtu) rest len bytes h =
    sym (be_bytes_4 rest mtu len bytes (sym h))
cleared_spelled (icmp.ParameterProblem header) rest len bytes h =
    sym (be_bytes_4 rest header.pointer len bytes (sym h))
cleared_spelled (icmp.EchoRequest echo) rest len bytes h = echo_spelled echo rest len bytes h
cleared_spelled (icmp.EchoReply echo) rest len bytes h = echo_spelled echo rest len bytes h
cleared_spelled (icmp.RouterAdvertisement header) rest len bytes h =
    router_spelled header rest len bytes h
cleared_spelled (icmp.NeighborAdvertisement header) rest len bytes h =
    neighbor_spelled header rest len bytes h
cleared_spelled t rest len bytes h = grind arith

abbrev spelling : Icmpv6Type → ℕ → List ℕ
spelling t checksum = icmpv6_type_number t ∷ icmpv6_code_number t
    ∷ (to_be_bytes w16 checksum ++ rest_of t)

-- the bytes before the first that are of the type
front_spelled : (t : Icmpv6Type) (checksum : ℕ) (p : List ℕ) → HasIcmpv6Bytes t checksum p
    → p ≡ icmpv6_type_number t ∷ icmpv6_code_number t ∷ (to_be_bytes w16 checksum ++ drop 4 p)
front_spelled t checksum p l =
    told p 0 (u8 (icmpv6_type_number t) ∷ u8 (icmpv6_code_number t) ∷ u16 checksum ∷ [])
    (drop 4 p) l.are_bytes (omega (arith, l.len))
    (sym l.says.type_is, (sym l.says.code_is, (l.checksum_is, refl)))

rest_spelled : (t : Icmpv6Type) (checksum : ℕ) (p : List ℕ) → HasIcmpv6Bytes t checksum p
    → icmpv6_cleared t (drop 4 p) ≡ rest_of t
rest_spelled t checksum p l =
    cleared_spelled t (drop 4 p) (omega (arith, length-drop 4 p, l.len))
    (drop_is_bytes 4 p l.are_bytes) l.says.rest_is

-- bytes with those not used cleared
pub cleared : (t : Icmpv6Type) (checksum : ℕ) (p : List ℕ) → HasIcmpv6Bytes t checksum p
    → take 4 p ++ icmpv6_cleared t (drop 4 p) ≡ spelling t checksum
cleared t checksum p l =
    same_append (ap (take 4) (front_spelled t checksum p l)) (rest_spelled t checksum p l)

pub spelled : (t : Icmpv6Type) (checksum : ℕ) (p : List ℕ) → IsIcmpv6Written t checksum p
    → p ≡ spelling t checksum
spelled t checksum p w = sym (take-append-drop 4 p) ∙ ap (λ rest. take 4 p ++ rest) w.unused
    ∙ cleared t checksum p w.layout

pub has_words : (t : Icmpv6Type) (zeroed p : List ℕ) (n : ℕ) → IsIcmpv6Written t 0 zeroed
    → IsIcmpv6Written t n p → HasWords (little_endian_word_sum zeroed) n p
has_words t zeroed p n k l = record {
  fits = rw (sym l.layout.checksum_is) (from_be_bytes-lt p 2 4 l.layout.are_bytes);
  even = omega (arith, l.layout.len);
  words = rw (spelled t 0 zeroed k, spelled t n p l) (omega arith);
}
