use Rattle.std.proofs.Common.{option_map, sym, ◌∙◌}
use Rattle.std.proofs.lemmas.Result.{IfErr-at_err, IfOk-at_ok}
use Rattle.packet_parts.proofs.FinalDestinations.{first_of, or_none, or_some, read_on}
use Rattle.packet_parts.proofs.final_destination.first_source_route.Goals as goal

pub returns-in-Some-Err : goal.returns-in-Some-Err
returns-in-Some-Err c =
    let read = c.options.invariant.1 in
    let ends = (rw c.options.invariant.0 at c.in-Some-Err.ensures.ends_refused) read.options read.begins in
    let only = first_of (IfErr-at_err _ c.in-Some-Err.field-0-is ends) read.found in
    record { found = only.0; only = only.1 }

pub returns-in-None : goal.returns-in-None
returns-in-None c =
    let read = c.options.invariant.1 in
    let only = first_of ((rw c.options.invariant.0 at c.in-None.ensures.ends) read.options read.begins) read.found in
    record { found = only.0; only = only.1 }

pub options-preserved-then-is_source_route : goal.options-preserved-then-is_source_route
options-preserved-then-is_source_route c =
    let read = read_on c.options.left.options.now _ _ _ _ _ c.options.invariant.0 c.options.invariant.1
    (λ options begins. IfOk-at_ok _ c.in-Some-Ok.field-0-is (c.in-Some-Ok.ensures.goes_on options begins)) in (
      c.in-Some-Ok.ensures.same_options ∙ c.options.invariant.0,
      rw (c.or-first.ensures, sym (or_some (λ route. route.now) c.options.first c.in-Some-Ok.option.slice)) (rw (sym c.if-is_source_route.ensures.value) at read),
    )

pub options-preserved : goal.options-preserved
options-preserved c =
    let read = read_on c.options.left.options.now _ _ _ _ _ c.options.invariant.0 c.options.invariant.1
    (λ options begins. IfOk-at_ok _ c.in-Some-Ok.field-0-is (c.in-Some-Ok.ensures.goes_on options begins)) in (
      c.in-Some-Ok.ensures.same_options ∙ c.options.invariant.0,
      rw (sym (or_none (option_map (λ route. route.now) c.options.first))) (rw (sym c.if-is_source_route.ensures.value) at read),
    )
