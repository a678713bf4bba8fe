-- The numbers of the codes of ICMPv6 (RFC 4443 sections 3.1, 3.3 and 3.4, RFC 7112, RFC 8754, RFC
-- 8883).
use Rattle.std.specs.Prelude.{ℕ}
use Rattle.etherparse_icmp.specs.declared.icmpv6.unreachable.DestUnreachableCode.{
  DestUnreachableCode,
}
use Rattle.etherparse_icmp.specs.declared.icmpv6.unreachable.DestUnreachableCode.TheVariants
    as unreachable
use Rattle.etherparse_icmp.specs.declared.icmpv6.problem_code.ParameterProblemCode.{
  ParameterProblemCode,
}
use Rattle.etherparse_icmp.specs.declared.icmpv6.problem_code.ParameterProblemCode.TheVariants
    as problem
use Rattle.etherparse_icmp.specs.declared.icmpv6.time_exceeded_code.TimeExceededCode.{
  TimeExceededCode,
}
use Rattle.etherparse_icmp.specs.declared.icmpv6.time_exceeded_code.TimeExceededCode.TheVariants
    as exceeded

abbrev pub dest_unreachable_number : DestUnreachableCode → ℕ
dest_unreachable_number unreachable.NoRoute = 0
dest_unreachable_number unreachable.Prohibited = 1
dest_unreachable_number unreachable.BeyondScope = 2
dest_unreachable_number unreachable.Address = 3
dest_unreachable_number unreachable.Port = 4
dest_unreachable_number unreachable.SourceAddressFailedPolicy = 5
dest_unreachable_number unreachable.RejectRoute = 6

abbrev pub time_exceeded_number : TimeExceededCode → ℕ
time_exceeded_number exceeded.HopLimitExceeded = 0
time_exceeded_number exceeded.FragmentReassemblyTimeExceeded = 1

abbrev pub parameter_problem_number : ParameterProblemCode → ℕ
parameter_problem_number problem.ErroneousHeaderField = 0
parameter_problem_number problem.UnrecognizedNextHeader = 1
parameter_problem_number problem.UnrecognizedIpv6Option = 2
parameter_problem_number problem.Ipv6FirstFragmentIncompleteHeaderChain = 3
parameter_problem_number problem.SrUpperLayerHeaderError = 4
parameter_problem_number problem.UnrecognizedNextHeaderByIntermediateNode = 5
parameter_problem_number problem.ExtensionHeaderTooBig = 6
parameter_problem_number problem.ExtensionHeaderChainTooLong = 7
parameter_problem_number problem.TooManyExtensionHeaders = 8
parameter_problem_number problem.TooManyOptionsInExtensionHeader = 9
parameter_problem_number problem.OptionTooBig = 10
