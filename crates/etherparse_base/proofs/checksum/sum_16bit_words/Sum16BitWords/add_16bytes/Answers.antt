use Rattle.std.proofs.Common.{◌∙◌, ap, arith}
use Rattle.etherparse_base.specs.WordSums.{folded_sum}
use Rattle.etherparse_base.proofs.FoldedSums.{folded_sum-plus, stands_for_words}
use Rattle.etherparse_base.proofs.WordNumbers.{sixteen}
use Rattle.etherparse_base.proofs.checksum.sum_16bit_words.Sum16BitWords.add_16bytes.Goals as goal

pub returns-clause-folded : goal.returns-clause-folded
returns-clause-folded c =
    c.add_8bytes-2.ensures.folded ∙ folded_sum-plus _ _ _ c.add_8bytes.ensures.folded ∙ ap folded_sum (omega (arith, sixteen 1 256 c.args.bytes (omega arith)))

pub returns-clause-in_a_sum : goal.returns-clause-in_a_sum
returns-clause-in_a_sum c = stands_for_words _ _ c.args.bytes (returns-clause-folded c)
