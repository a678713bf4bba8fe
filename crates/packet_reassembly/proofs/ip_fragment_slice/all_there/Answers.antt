use Rattle.std.proofs.Common.{MatchOption, subst}
use Rattle.packet_parts.specs.IpSlice.{EndsInExtensions, IsWhole, RefusesIp}
use Rattle.packet_reassembly.proofs.IpFragments.{extensions_enough}
use Rattle.packet_reassembly.proofs.ip_fragment_slice.all_there.Goals as goal

pub returns-in-Extensions : goal.returns-in-Extensions
returns-in-Extensions c =
    let stop = subst (λ o. MatchOption o (IsWhole c.args.packet.now c.in-Ok.lax.slice) (RefusesIp c.args.packet.now)) c.in-Some.is c.in-Ok.ensures.found.stop in
    let ends : EndsInExtensions c.args.packet.now c.in-Extensions.field-0 = subst (RefusesIp c.args.packet.now) c.in-Extensions.is stop in
    let (told, enough) = extensions_enough c.args.packet.now c.in-Ok.lax.slice c.in-Ok.lax.slice.header c.in-Extensions.field-0 c.in-Ok.ensures.found.parts ends in
    record { parts = c.in-Ok.ensures.found.parts; untold_is_ipv6 = told; enough = enough; refused = tt }
