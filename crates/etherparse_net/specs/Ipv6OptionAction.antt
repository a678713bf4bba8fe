-- What a node does that does not know the type of an option (RFC 8200 section 4.2).
use Rattle.std.specs.Prelude.{ℕ, ◌==◌, if◌then◌else◌}
use Rattle.etherparse_net.specs.declared.ipv6_option_action.Ipv6OptionAction.{Ipv6OptionAction}
use Rattle.etherparse_net.specs.declared.ipv6_option_action.Ipv6OptionAction.TheVariants as action

-- the action that the two highest bits of a type stand for, as a number from 0 to 3
abbrev pub action_of : ℕ → Ipv6OptionAction
action_of bits =
    if bits == 0 then action.Skip
    else (if bits == 1 then action.Discard
    else (if bits == 2 then action.DiscardAndReport
    else action.DiscardAndReportUnlessMulticast))
