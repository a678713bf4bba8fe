use Rattle.std.proofs.Common.{◌≡◌, false}
use Rattle.c_answers.specs.Batch.{HasAnswers}
use Rattle.c_answers.proofs.filter_frames.choose_none.Given as goal

-- the answers so far
abbrev pub invariant-loop-i : goal.invariant-loop-i
invariant-loop-i l = HasAnswers (λ frame answer. answer ≡ false) l.frames l.fn.answers l.answers l.i
