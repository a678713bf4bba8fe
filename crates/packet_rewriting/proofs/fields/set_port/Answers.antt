use Rattle.std.proofs.Common.{refl}
use Rattle.packet_rewriting.proofs.Readdressed.{enough_ports, headers_within_ports, payload_len_ports, payload_within_ports, with_other_port}
use Rattle.packet_rewriting.proofs.fields.set_port.Goals as goal

pub returns-clause-changed : goal.returns-clause-changed
returns-clause-changed c =
    let split = c.split_at_mut-rest in
    with_other_port c.in-Ok.ensures.found c.args.offset c.args.port split.result.0.now split.result.1.now c.put_port.new.payload _ split.ensures.front split.ensures.back
    c.put_port.ensures.written c.put_port.ensures.updates refl c.requires.even c.requires.within

pub split_at_mut-rest-requires : goal.split_at_mut-rest-requires
split_at_mut-rest-requires c = headers_within_ports c.in-Ok.ensures.found

pub slice_bounds-put_port-end : goal.slice_bounds-put_port-end
slice_bounds-put_port-end c = payload_within_ports c.in-Ok.ensures.found _ c.split_at_mut-rest.ensures.back

pub slice_bounds-put_port-end-2 : goal.slice_bounds-put_port-end-2
slice_bounds-put_port-end-2 c = payload_len_ports c.in-Ok.ensures.found _ c.split_at_mut-rest.ensures.back

pub put_port-requires : goal.put_port-requires
put_port-requires c =
    let enough = enough_ports c.in-Ok.ensures.found _ c.split_at_mut-rest.ensures.back in
    record { within = c.requires.within; enough = enough.0; long = enough.1 }
