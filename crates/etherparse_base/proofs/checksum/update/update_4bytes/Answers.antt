use Rattle.std.proofs.Common.{arith, sym, ◌∙◌}
use Rattle.etherparse_base.proofs.WordSumLaws.{in_turn}
use Rattle.etherparse_base.proofs.checksum.update.update_4bytes.Goals as goal

pub returns-clause-in_turn : goal.returns-clause-in_turn
returns-clause-in_turn c = c.updated.ensures.value ∙ rw (c.two_words.ensures.sum, c.two_words-2.ensures.sum) (sym (in_turn 2 _ _ _ (omega arith) c.are_bytes.ensures (omega arith) (omega arith)).1)
