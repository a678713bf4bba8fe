use Rattle.c_answers.specs.Batch.{HasAnswers}
use Rattle.c_answers.specs.Layers.{GivesLax}
use Rattle.c_answers.proofs.frame.lax_batch.Given as goal

-- the answers so far
abbrev pub invariant-loop-i : goal.invariant-loop-i
invariant-loop-i l = HasAnswers (λ frame answer. GivesLax l.link_type l.checksums frame.bytes.now answer) l.frames l.fn.answers l.answers l.i
