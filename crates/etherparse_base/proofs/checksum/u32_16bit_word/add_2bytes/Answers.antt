use Rattle.std.proofs.Common.{rules}
use Rattle.etherparse_base.proofs.checksum.u32_16bit_word.add_2bytes.Goals as goal

pub returns-clause-sum : goal.returns-clause-sum
returns-clause-sum c = search rules
