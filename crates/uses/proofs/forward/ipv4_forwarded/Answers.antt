use Rattle.std.proofs.Common.{refl, rules}
use Rattle.uses.proofs.forward.ipv4_forwarded.Goals as goal

pub returns-clause-next : goal.returns-clause-next
returns-clause-next c =
    let lowers = c.if-not-lower_time_to_live.ensures in
    search (rules, c.in_ok-header.ensures.reads.reads, c.in_ok-header.ensures.reads.cleared, lowers.lowered.0 refl, lowers.set, lowers.keeps_checksum.all_ones, c.to_bytes.ensures.layout)
