use Rattle.c_answers.specs.Batch.{HasAnswers}
use Rattle.packet_filter.specs.Frame.{Answers}
use Rattle.packet_filter.specs.Program.{expression_of}
use Rattle.c_answers.proofs.filter_frames.choose_each_of.Given as goal

-- the answers so far
abbrev pub invariant-loop-i : goal.invariant-loop-i
invariant-loop-i l = HasAnswers (λ frame answer. Answers (expression_of l.filter) l.link_type frame.bytes.now frame.original_len answer) l.frames l.fn.answers l.answers l.i
