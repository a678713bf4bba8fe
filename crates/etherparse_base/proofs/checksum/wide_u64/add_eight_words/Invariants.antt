use Rattle.std.proofs.Common.{◌≡◌, ◌+◌, ◌%◌, length}
use Rattle.etherparse_base.specs.Private.WideSums.{SameFold}
use Rattle.etherparse_base.specs.WordSums.{little_endian_word_sum}
use Rattle.etherparse_base.proofs.checksum.wide_u64.add_eight_words.Given as goal

-- what is summed and what is left are what was to be summed
abbrev pub invariant-loop-rest : goal.invariant-loop-rest
invariant-loop-rest l = record {
  adds : SameFold (l.sum + little_endian_word_sum l.rest) (l.fn.start.sum + little_endian_word_sum l.fn.start.rest.now);
  eighths : length l.rest % 8 ≡ length l.fn.start.rest.now % 8;
}

abbrev pub decreases-loop-rest : goal.decreases-loop-rest
decreases-loop-rest l = length l.rest
