use Rattle.std.proofs.Common.{length, refl}
use Rattle.packet_builder.proofs.BuiltHeaders.{written}
use Rattle.packet_builder.proofs.ip_step.IpStep.write_to_slice.Goals as goal

pub returns-clause-packet : goal.returns-clause-packet
returns-clause-packet c =
    let payload = c.args.payload.now in
    let headers = c.in_ok-at.ensures in
    let upper = c.put-2 in
    written c.args.self.headers c.args.protocol (length payload) c.in_ok-at.at upper.result c.args.slice.now c.put.new.out upper.new.out payload refl
    headers.writes headers.end (headers.accepted.0 refl).1 upper.ensures.writes upper.ensures.end
