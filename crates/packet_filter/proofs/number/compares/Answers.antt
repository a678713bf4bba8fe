use Rattle.std.proofs.Common.{arith}
use Rattle.std.proofs.lemmas.Grind.{common_steps}
use Rattle.packet_filter.proofs.number.compares.Goals as goal

pub returns-in-Equal : goal.returns-in-Equal
returns-in-Equal c = grind (arith, common_steps)

pub returns-in-Greater : goal.returns-in-Greater
returns-in-Greater c = grind (arith, common_steps)

pub returns-in-Less : goal.returns-in-Less
returns-in-Less c = grind (arith, common_steps)

pub returns-in-NotEqual : goal.returns-in-NotEqual
returns-in-NotEqual c = grind (arith, common_steps)
