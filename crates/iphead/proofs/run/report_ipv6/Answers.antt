use Rattle.std.proofs.Common.{Err, Ok, ap, arith, length, length-append, refl}
use Rattle.std.proofs.KnownBytes.{Appends-trans}
use Rattle.std.proofs.lemmas.Result.{IfOk-weaker}
use Rattle.etherparse.proofs.Fronts.{begins_at}
use Rattle.etherparse.specs.Ipv6Header.{IsIpv6Layout}
use Rattle.iphead.proofs.run.report_ipv6.Goals as goal

-- the lines of the header, and then those of the walk after it
pub returns-in_ok-write_ipv6-in-Ok : goal.returns-in_ok-write_ipv6-in-Ok
returns-in_ok-write_ipv6-in-Ok g c =
    let v = c.in-Ok.ensures.views in
    let begins = begins_at IsIpv6Layout 40 _ _ _ v.header v.whole v.layout v.layout.len in
    record {
      output = IfOk-weaker c.report_walk.result _ _ (λ status w. record {
        text = _;
        outcome = record { reading = Ok (v.header, _, w.outcome.reading); reads = (begins, w.outcome.reads); outcome_of_it = grind (arith, w.outcome.outcome_of_it) };
        appended = Appends-trans _ _ _ _ _ (c.in_ok-write_ipv6-in-Ok.ensures.appends v.header v.layout) w.appended;
      }) (rw (c.next_header.ensures.value v.header v.layout) at c.report_walk.ensures.output);
    }

pub returns-in_ok-write_error-in-Err : goal.returns-in_ok-write_error-in-Err
returns-in_ok-write_error-in-Err g c =
    record { output = record { text = _; outcome = record { reading = Err c.in-Err.e; reads = c.in-Err.ensures.views; outcome_of_it = refl }; appended = c.in_ok-write_error-in-Err.ensures.appends } }

pub slice_bounds-report_walk-count : goal.slice_bounds-report_walk-count
slice_bounds-report_walk-count g c =
    let v = c.in-Ok.ensures.views in omega (arith, v.layout.len, simp length-append at (ap length v.whole))

pub slice_bounds-report_walk-start : goal.slice_bounds-report_walk-start
slice_bounds-report_walk-start g c = slice_bounds-report_walk-count g c
