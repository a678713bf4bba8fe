use Rattle.std.proofs.Common.{arith}
use Rattle.std.proofs.lemmas.Grind.{common_steps}
use Rattle.etherparse_base.proofs.WordNumbers.{last_bytes}
use Rattle.etherparse_base.proofs.checksum.words.number_of_last.Goals as goal

pub returns : goal.returns
returns c = record { folded = last_bytes _ c.args.count c.args.bytes.now (grind (arith, common_steps)) c.requires.eight (λ i. omega (arith, c.type_inv.bytes i)) c.requires.few }
