use Rattle.std.proofs.Common.{None, Some, arith, refl, rules, sym}
use Rattle.packet_parts.proofs.IpRefusals.{no_parts_refused}
use Rattle.packet.proofs.Places.{error_within, header_within}
use Rattle.packet.proofs.network.network_at.Goals as goal

pub ip_error_moved-requires : goal.ip_error_moved-requires
ip_error_moved-requires c =
    let within = error_within c.args.packet.now c.in-Err.e (no_parts_refused _ _ c.in-Err.ensures.refused) in record { fits = omega arith }

pub ip_error_moved-requires-in-Some : goal.ip_error_moved-requires-in-Some
ip_error_moved-requires-in-Some c =
    let stop = rw c.in-Some.is at c.in-Ok.ensures.found.stop in
    let within = error_within c.args.packet.now c.in-Some.e stop in
    rw c.in-Some.is (record { fits = omega arith })

pub overflow_add-place : goal.overflow_add-place
overflow_add-place c = let within = header_within c.args.packet.now c.in-Ok.lax.slice c.in-Ok.ensures.found.parts in omega (arith, c.header_len.ensures.value)

pub transport_of-missing-requires : goal.transport_of-missing-requires
transport_of-missing-requires c =
    let within = header_within c.args.packet.now c.in-Ok.lax.slice c.in-Ok.ensures.found.parts in record { fits = omega (arith, c.header_len.ensures.value) }

pub returns-in-None : goal.returns-in-None
returns-in-None c = record {
  layers = record {
    ip_stop = None;
    parts = rw (sym c.in-None.is) c.in-Ok.ensures.found;
    missing = c.transport_of-missing.result.1;
    reads = rw c.header_len.ensures.value at c.transport_of-missing.ensures.reads;
    stops = refl;
  };
}

pub returns-in-Some : goal.returns-in-Some
returns-in-Some c = record {
  layers = record {
    ip_stop = Some c.in-Some.e;
    parts = rw (sym c.in-Some.is) c.in-Ok.ensures.found;
    missing = c.transport_of-missing.result.1;
    reads = rw c.header_len.ensures.value at c.transport_of-missing.ensures.reads;
    stops = search rules;
  };
}
