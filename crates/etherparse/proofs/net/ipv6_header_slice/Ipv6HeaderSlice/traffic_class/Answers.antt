use Rattle.std.proofs.Common.{arith}
use Rattle.std.proofs.lemmas.Grind.{common_steps}
use Rattle.etherparse.proofs.Ipv6Layout.{word_of-layout}
use Rattle.etherparse.proofs.net.ipv6_header_slice.Ipv6HeaderSlice.traffic_class.Goals as goal

pub returns-clause-value : goal.returns-clause-value
returns-clause-value c = λ header k. let word = word_of-layout header _ k in grind (arith, common_steps)
