use Rattle.std.proofs.Common.{arith}
use Rattle.std.proofs.lemmas.Grind.{common_steps}
use Rattle.etherparse_base.proofs.checksum.words.last_byte.Goals as goal

pub returns-else-bytes-lt1-clause-value : goal.returns-else-bytes-lt1-clause-value
returns-else-bytes-lt1-clause-value c = grind (arith, common_steps)
