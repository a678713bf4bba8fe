use Rattle.std.proofs.Common.{arith, refl, ◌≡◌, ◌*◌, ◌/◌, ◌^◌, bit_and}
use Rattle.std.proofs.lemmas.Grind.{common_steps}
use Rattle.std.proofs.lemmas.Nat.{or_shifted}
use Rattle.etherparse.proofs.net.ipv6_header.Ipv6Header.set_ecn.Goals as goal

pub returns : goal.returns
returns c =
    let old = c.self.inside in
    let dscp : bit_and old.traffic_class 252 ≡ old.traffic_class / 2 ^ 2 * 2 ^ 2 = grind (arith, common_steps) in
    record { set = rw (← c.self.view_is) (rw (dscp, or_shifted (old.traffic_class / 2 ^ 2) 2 c.value.result (omega arith), c.value.ensures.value) refl) }
