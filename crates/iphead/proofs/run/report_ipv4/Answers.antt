use Rattle.std.proofs.Common.{◌≡◌, Err, Ok, ap, arith, length, length-append, refl, take}
use Rattle.std.proofs.lemmas.List.{take_at}
use Rattle.etherparse.specs.Ipv4Header.{ipv4_header_len}
use Rattle.iphead.proofs.run.report_ipv4.Goals as goal

pub overflow_sub-rest_len : goal.overflow_sub-rest_len
overflow_sub-rest_len g c =
    rw c.slice.ensures.value (omega (arith, simp length-append at (ap length c.in-Ok.ensures.views.whole)))

pub returns-in_ok-write_ipv4-in-Ok : goal.returns-in_ok-write_ipv4-in-Ok
returns-in_ok-write_ipv4-in-Ok g c =
    let v = c.in-Ok.ensures.views in
    let shown = c.in-Ok.view.slice.now in
    let front : take (ipv4_header_len v.header) c.args.bytes.now ≡ shown = rw v.whole (take_at shown v.rest (ipv4_header_len v.header) v.layout.layout.len) in
    record { output = record { text = _; outcome = record { reading = Ok (v.header, v.rest); reads = record { front = shown; whole = v.whole; layout = v.layout }; outcome_of_it = grind (arith, length-append) }; appended = c.in_ok-write_ipv4-in-Ok.ensures.appends v.header v.layout } }

pub returns-in_ok-write_error-in-Err : goal.returns-in_ok-write_error-in-Err
returns-in_ok-write_error-in-Err g c =
    record { output = record { text = _; outcome = record { reading = Err c.in-Err.e; reads = c.in-Err.ensures.views; outcome_of_it = refl }; appended = c.in_ok-write_error-in-Err.ensures.appends } }
