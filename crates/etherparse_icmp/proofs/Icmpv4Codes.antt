-- The codes of ICMP: each is told by its number and by what it has after the checksum.
use Rattle.std.proofs.Common.{drop, drop_of_length-le, ℕ, ◌≡◌, ◌==◌, List, [], ◌∷◌, length}
use Rattle.std.proofs.Common.{slice_index, if◌then◌else◌, arith, refl, w16}
use Rattle.std.specs.Int.{from_be_bytes, to_be_bytes}
use Rattle.std.specs.List.{slice_range}
use Rattle.std.proofs.lemmas.Grind.{common_steps}
use Rattle.etherparse.proofs.Layouts.{told, u16}
use Rattle.etherparse.specs.Bytes.{IsBytes}
use Rattle.etherparse_icmp.specs.Icmpv4Codes.{IsNextHopMtu, IsPointer, problem_cleared}
use Rattle.etherparse_icmp.specs.Icmpv4Codes.{unreachable_cleared}
use Rattle.etherparse_icmp.specs.Icmpv4Codes.{dest_unreachable_number, parameter_problem_number}
use Rattle.etherparse_icmp.specs.Icmpv4Codes.{redirect_number, time_exceeded_number}
use Rattle.etherparse_icmp.specs.declared.icmpv4.unreachable.DestUnreachableHeader.{DestUnreachableHeader}
use Rattle.etherparse_icmp.specs.declared.icmpv4.unreachable.DestUnreachableHeader.TheVariants
    as unreachable
use Rattle.etherparse_icmp.specs.declared.icmpv4.problem.ParameterProblemHeader.{ParameterProblemHeader}
use Rattle.etherparse_icmp.specs.declared.icmpv4.problem.ParameterProblemHeader.TheVariants
    as problem
use Rattle.etherparse_icmp.specs.declared.icmpv4.redirect_code.RedirectCode.{RedirectCode}
use Rattle.etherparse_icmp.specs.declared.icmpv4.redirect_code.RedirectCode.TheVariants as redirect
use Rattle.etherparse_icmp.specs.declared.icmpv4.time_exceeded_code.TimeExceededCode.{TimeExceededCode}
use Rattle.etherparse_icmp.specs.declared.icmpv4.time_exceeded_code.TimeExceededCode.TheVariants
    as exceeded

abbrev pub unreachable_code : ℕ → ℕ → DestUnreachableHeader
unreachable_code n mtu = if n == 0 then unreachable.Network else if n == 1 then unreachable.Host
    else if n == 2 then unreachable.Protocol else
    if n == 3 then unreachable.Port else if n == 4 then unreachable.FragmentationNeeded mtu
    else if n == 5 then unreachable.SourceRouteFailed else
    if n == 6 then unreachable.NetworkUnknown else if n == 7 then unreachable.HostUnknown
    else if n == 8 then unreachable.Isolated else
    if n == 9 then unreachable.NetworkProhibited else if n == 10 then unreachable.HostProhibited
    else if n == 11 then unreachable.TosNetwork else
    if n == 12 then unreachable.TosHost else if n == 13 then unreachable.FilterProhibited
    else if n == 14 then unreachable.HostPrecedenceViolation else
    unreachable.PrecedenceCutoff

pub unreachable_told : (header : DestUnreachableHeader) (mtu : ℕ) → IsNextHopMtu header mtu
    → unreachable_code (dest_unreachable_number header) mtu ≡ header
unreachable_told header mtu h = grind (arith, common_steps)

-- the 4 bytes after the checksum, those that are not used 0
abbrev pub unreachable_rest : DestUnreachableHeader → List ℕ
unreachable_rest (unreachable.FragmentationNeeded mtu) = 0 ∷ 0 ∷ to_be_bytes w16 mtu
unreachable_rest header = 0 ∷ 0 ∷ 0 ∷ 0 ∷ []

pub unreachable_rest_is : (header : DestUnreachableHeader) (rest : List ℕ) → length rest ≡ 4
    → IsBytes rest
    → IsNextHopMtu header (from_be_bytes w16 (slice_range rest 2 4))
    → unreachable_cleared header rest ≡ unreachable_rest header
unreachable_rest_is header rest len bytes h =
    let mtu : drop 2 rest ≡ to_be_bytes w16 (from_be_bytes w16 (slice_range rest 2 4)) =
    told rest 2 (u16 _ ∷ []) [] bytes (omega (arith, len))
    (refl, drop_of_length-le rest {i = 4} (omega (arith, len))) in
    grind (arith, common_steps)

abbrev pub redirect_code : ℕ → RedirectCode
redirect_code n = if n == 0 then redirect.RedirectForNetwork
    else if n == 1 then redirect.RedirectForHost
    else if n == 2 then redirect.RedirectForTypeOfServiceAndNetwork
    else redirect.RedirectForTypeOfServiceAndHost

pub redirect_told : (code : RedirectCode) → redirect_code (redirect_number code) ≡ code
redirect_told code = grind (arith, common_steps)

abbrev pub exceeded_code : ℕ → TimeExceededCode
exceeded_code n = if n == 0 then exceeded.TtlExceededInTransit
    else exceeded.FragmentReassemblyTimeExceeded

pub exceeded_told : (code : TimeExceededCode) → exceeded_code (time_exceeded_number code) ≡ code
exceeded_told code = grind (arith, common_steps)

abbrev pub problem_code : ℕ → ℕ → ParameterProblemHeader
problem_code n byte = if n == 0 then problem.PointerIndicatesError byte
    else if n == 1 then problem.MissingRequiredOption else problem.BadLength

pub problem_told : (header : ParameterProblemHeader) (byte : ℕ) → IsPointer header byte
    → problem_code (parameter_problem_number header) byte ≡ header
problem_told header byte h = grind (arith, common_steps)

abbrev pub problem_rest : ParameterProblemHeader → List ℕ
problem_rest (problem.PointerIndicatesError pointer) = pointer ∷ 0 ∷ 0 ∷ 0 ∷ []
problem_rest header = 0 ∷ 0 ∷ 0 ∷ 0 ∷ []

pub problem_rest_is : (header : ParameterProblemHeader) (rest : List ℕ)
    → IsPointer header (slice_index rest 0) → problem_cleared header rest ≡ problem_rest header
problem_rest_is header rest h = grind (arith, common_steps)
