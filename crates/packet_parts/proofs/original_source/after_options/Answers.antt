use Rattle.std.proofs.Common.{sym, ◌∙◌}
use Rattle.std.proofs.lemmas.Result.{IfOk-at_ok}
use Rattle.packet_parts.proofs.OriginalSources.{source_on}
use Rattle.packet_parts.proofs.original_source.after_options.Goals as goal

pub options-preserved : goal.options-preserved
options-preserved c =
    let read = source_on c.args.source c.options.left.options.now _ _ _ _ _ c.options.invariant.0 c.options.invariant.1
    (λ options begins. IfOk-at_ok _ c.in-Some-Ok.field-0-is (c.in-Some-Ok.ensures.goes_on options begins)) in
    (c.in-Some-Ok.ensures.same_options ∙ c.options.invariant.0, rw (sym c.after_option-next.ensures.value) at read)
