use Rattle.std.proofs.Common.{arith}
use Rattle.std.proofs.lemmas.Grind.{common_steps}
use Rattle.etherparse.proofs.net.ipv6_header_slice.Ipv6HeaderSlice.ecn.Goals as goal

pub returns : goal.returns
returns c = record { value = λ header k. grind (arith, common_steps, c.traffic_class.ensures.value header k) }
