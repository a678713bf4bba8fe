use Rattle.std.proofs.Common.{rules}
use Rattle.packet_filter.proofs.Verdicts.{only_wrong}
use Rattle.packet_filter.proofs.holds.has_wrong_payload.Goals as goal

pub returns-in_default : goal.returns-in_default
returns-in_default c =
    let lax = c.args.lax.now in
    record { value = (search rules, λ w. absurd (c.in_default.not-Wrong (only_wrong lax.packet.net lax.stop c.in-Some.verdict w c.in-Some.ensures.judges))) }
