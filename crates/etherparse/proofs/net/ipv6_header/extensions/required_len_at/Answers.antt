use Rattle.std.proofs.Common.{arith}
use Rattle.std.proofs.lemmas.Grind.{common_steps}
use Rattle.etherparse.proofs.net.ipv6_header.extensions.required_len_at.Goals as goal

pub returns-then-slice-offset-lt2 : goal.returns-then-slice-offset-lt2
returns-then-slice-offset-lt2 c = grind (arith, common_steps)
