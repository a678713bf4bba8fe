use Rattle.std.proofs.Common.{ap, arith}
use Rattle.etherparse_base.specs.WordSums.{little_endian_word_sum}
use Rattle.etherparse.proofs.Parts.{spread}
use Rattle.etherparse.proofs.net.ipv4_header.fixed_and_options.sum_of_fixed.Goals as goal

pub returns : goal.returns
returns c = let fours = ap little_endian_word_sum (spread c.args.front 20 c.requires) in record { in_a_sum = λ n. grind arith }
