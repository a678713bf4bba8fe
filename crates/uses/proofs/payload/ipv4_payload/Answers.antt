use Rattle.std.proofs.Common.{arith}
use Rattle.std.proofs.lemmas.Grind.{common_steps}
use Rattle.uses.proofs.payload.ipv4_payload.Goals as goal

pub returns : goal.returns
returns c = grind (arith, common_steps)
