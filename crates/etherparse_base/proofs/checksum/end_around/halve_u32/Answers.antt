use Rattle.std.proofs.Common.{arith}
use Rattle.std.proofs.lemmas.Grind.{common_steps}
use Rattle.etherparse_base.proofs.checksum.end_around.halve_u32.Goals as goal

pub returns : goal.returns
returns c = grind (arith, common_steps)
