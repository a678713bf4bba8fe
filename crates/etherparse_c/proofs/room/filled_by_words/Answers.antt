use Rattle.std.proofs.Common.{◌∙◌, arith}
use Rattle.std.proofs.lemmas.Grind.{common_steps}
use Rattle.std.proofs.lemmas.List.{ext_get_or}
use Rattle.etherparse_c.proofs.room.filled_by_words.Goals as goal

pub returns : goal.returns
returns c =
    let len = c.loop-word.invariant.0 in
    record { value = ext_get_or 0 _ _ (grind (arith, common_steps, len)) (λ i below. c.loop-word.invariant.1 i (omega (arith, len)) ∙ grind (arith, common_steps, len)) }
