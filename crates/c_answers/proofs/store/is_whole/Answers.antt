use Rattle.std.proofs.Common.{arith}
use Rattle.std.proofs.lemmas.Grind.{common_steps}
use Rattle.c_answers.proofs.store.is_whole.Goals as goal

pub returns-then-from-len-clause-no_fragment : goal.returns-then-from-len-clause-no_fragment
returns-then-from-len-clause-no_fragment c = λ whole header layout fragment.
    let marked = (c.is_fragmenting_payload.ensures.value header layout).1 fragment in grind (arith, common_steps, marked, whole)
