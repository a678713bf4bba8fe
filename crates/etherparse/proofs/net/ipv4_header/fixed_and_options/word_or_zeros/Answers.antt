use Rattle.std.proofs.Common.{arith}
use Rattle.std.proofs.lemmas.Grind.{common_steps}
use Rattle.etherparse_base.proofs.WordSumLaws.{little_endian_word_sum-cut}
use Rattle.etherparse.proofs.net.ipv4_header.fixed_and_options.word_or_zeros.Goals as goal

pub returns-then-place-options : goal.returns-then-place-options
returns-then-place-options c = grind (arith, common_steps, little_endian_word_sum-cut)
