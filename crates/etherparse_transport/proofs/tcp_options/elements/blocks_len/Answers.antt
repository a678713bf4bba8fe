use Rattle.std.proofs.Common.{arith}
use Rattle.std.proofs.lemmas.Grind.{common_steps}
use Rattle.etherparse_transport.proofs.tcp_options.elements.blocks_len.Goals as goal

pub returns : goal.returns
returns c = grind (arith, common_steps)
