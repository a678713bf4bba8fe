use Rattle.std.proofs.Common.{arith}
use Rattle.etherparse_base.proofs.WordSumLaws.{three_stand_for, word_sum_past}
use Rattle.etherparse_base.proofs.checksum.words.last_three_words.Goals as goal

pub returns : goal.returns
returns c = record {
  stands_for = three_stand_for _ _ _ _ _ _ _ (word_sum_past 24 c.args.bytes.now (omega (arith, c.requires.few, c.requires.eighths)))
      c.word_or_zero.ensures.stands_for c.word_or_zero-2.ensures.stands_for c.word_or_zero-3.ensures.stands_for;
}
