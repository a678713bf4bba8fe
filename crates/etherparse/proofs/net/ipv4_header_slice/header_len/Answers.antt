use Rattle.std.proofs.Common.{arith}
use Rattle.std.proofs.lemmas.Grind.{common_steps}
use Rattle.etherparse.proofs.net.ipv4_header_slice.header_len.Goals as goal

pub returns-then-first-lt69-clause-content : goal.returns-then-first-lt69-clause-content
returns-then-first-lt69-clause-content c = grind (arith, common_steps)
