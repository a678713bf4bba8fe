use Rattle.std.proofs.Common.{arith}
use Rattle.std.proofs.lemmas.Grind.{common_steps}
use Rattle.packet_filter.proofs.partial.after_word.Goals as goal

pub returns-in-Network : goal.returns-in-Network
returns-in-Network c = grind (arith, common_steps)

pub returns-in-Number : goal.returns-in-Number
returns-in-Number c = grind (arith, common_steps)

pub returns-in-OpenBracket : goal.returns-in-OpenBracket
returns-in-OpenBracket c = grind (arith, common_steps)

pub returns-in-Transport : goal.returns-in-Transport
returns-in-Transport c = grind (arith, common_steps)

pub returns-in_default : goal.returns-in_default
returns-in_default c = grind (arith, common_steps)

pub returns-in_default-token : goal.returns-in_default-token
returns-in_default-token c = grind (arith, common_steps)

pub returns-in_default-token-2 : goal.returns-in_default-token-2
returns-in_default-token-2 c = grind (arith, common_steps)

pub returns-in_default-token-2-2 : goal.returns-in_default-token-2-2
returns-in_default-token-2-2 c = grind (arith, common_steps)
