-- The numbers of the codes of ICMP, and what only some of them have (RFC 792, RFC 1122 section
-- 3.2.2, RFC 1191 section 4, RFC 1812 section 5.2.7).
use Rattle.std.specs.Prelude.{ℕ, ◌≡◌, List, [], ◌∷◌, drop, slice_index}
use Rattle.etherparse_icmp.specs.declared.icmpv4.unreachable.DestUnreachableHeader.{
  DestUnreachableHeader,
}
use Rattle.etherparse_icmp.specs.declared.icmpv4.unreachable.DestUnreachableHeader.TheVariants
    as unreachable
use Rattle.etherparse_icmp.specs.declared.icmpv4.problem.ParameterProblemHeader.{
  ParameterProblemHeader,
}
use Rattle.etherparse_icmp.specs.declared.icmpv4.problem.ParameterProblemHeader.TheVariants
    as problem
use Rattle.etherparse_icmp.specs.declared.icmpv4.redirect_code.RedirectCode.{RedirectCode}
use Rattle.etherparse_icmp.specs.declared.icmpv4.redirect_code.RedirectCode.TheVariants
    as redirect
use Rattle.etherparse_icmp.specs.declared.icmpv4.time_exceeded_code.TimeExceededCode.{
  TimeExceededCode,
}
use Rattle.etherparse_icmp.specs.declared.icmpv4.time_exceeded_code.TimeExceededCode.TheVariants
    as exceeded

abbrev pub dest_unreachable_number : DestUnreachableHeader → ℕ
dest_unreachable_number unreachable.Network = 0
dest_unreachable_number unreachable.Host = 1
dest_unreachable_number unreachable.Protocol = 2
dest_unreachable_number unreachable.Port = 3
dest_unreachable_number (unreachable.FragmentationNeeded next_hop_mtu) = 4
dest_unreachable_number unreachable.SourceRouteFailed = 5
dest_unreachable_number unreachable.NetworkUnknown = 6
dest_unreachable_number unreachable.HostUnknown = 7
dest_unreachable_number unreachable.Isolated = 8
dest_unreachable_number unreachable.NetworkProhibited = 9
dest_unreachable_number unreachable.HostProhibited = 10
dest_unreachable_number unreachable.TosNetwork = 11
dest_unreachable_number unreachable.TosHost = 12
dest_unreachable_number unreachable.FilterProhibited = 13
dest_unreachable_number unreachable.HostPrecedenceViolation = 14
dest_unreachable_number unreachable.PrecedenceCutoff = 15

-- the number is the MTU of the next hop, where the code has one (RFC 1191 section 4)
abbrev pub IsNextHopMtu : DestUnreachableHeader → ℕ → Type 0
IsNextHopMtu (unreachable.FragmentationNeeded next_hop_mtu) mtu = mtu ≡ next_hop_mtu
IsNextHopMtu header mtu = Unit {0}

-- the 4 bytes after the checksum with those 0 that the code does not use
abbrev pub unreachable_cleared : DestUnreachableHeader → List ℕ → List ℕ
unreachable_cleared (unreachable.FragmentationNeeded next_hop_mtu) rest = 0 ∷ 0 ∷ drop 2 rest
unreachable_cleared header rest = 0 ∷ 0 ∷ 0 ∷ 0 ∷ []

abbrev pub redirect_number : RedirectCode → ℕ
redirect_number redirect.RedirectForNetwork = 0
redirect_number redirect.RedirectForHost = 1
redirect_number redirect.RedirectForTypeOfServiceAndNetwork = 2
redirect_number redirect.RedirectForTypeOfServiceAndHost = 3

abbrev pub time_exceeded_number : TimeExceededCode → ℕ
time_exceeded_number exceeded.TtlExceededInTransit = 0
time_exceeded_number exceeded.FragmentReassemblyTimeExceeded = 1

abbrev pub parameter_problem_number : ParameterProblemHeader → ℕ
parameter_problem_number (problem.PointerIndicatesError pointer) = 0
parameter_problem_number problem.MissingRequiredOption = 1
parameter_problem_number problem.BadLength = 2

-- the byte is the pointer, where the code has one
abbrev pub IsPointer : ParameterProblemHeader → ℕ → Type 0
IsPointer (problem.PointerIndicatesError pointer) byte = byte ≡ pointer
IsPointer header byte = Unit {0}

-- the 4 bytes after the checksum with those 0 that the code does not use
abbrev pub problem_cleared : ParameterProblemHeader → List ℕ → List ℕ
problem_cleared (problem.PointerIndicatesError pointer) rest =
    slice_index rest 0 ∷ 0 ∷ 0 ∷ 0 ∷ []
problem_cleared header rest = 0 ∷ 0 ∷ 0 ∷ 0 ∷ []
