use Rattle.std.proofs.Common.{◌≡◌, ◌<◌, arith, length}
use Rattle.std.proofs.lemmas.Grind.{common_steps}
use Rattle.packet_parts.proofs.PseudoHeader.{judges}
use Rattle.packet_parts.proofs.checksum.is_right_ipv4.Goals as goal

pub returns : goal.returns
returns c =
    let told : c.in-Ok.len ≡ length c.args.covered.now = grind (arith, c.in-Ok.is, c.try_from.ensures) in
    let fits : length c.args.covered.now < 65536 = grind (arith, c.in-Ok.is, c.try_from.ensures) in
    let judged = judges _ c.args.covered.now _ _ _ c.ipv4_pseudo_header-sum.ensures.sum c.add_slice-2.ensures.adds c.ones_complement-2.ensures.complements in
    record {
      value = (
        λ zero. record { fits = λ _. fits; sum = grind (arith, common_steps, judged.0 zero, told, c.eq.ensures, c.if-eq.false) },
        λ right. judged.1 (grind (arith, common_steps, right.sum, told, c.eq.ensures, c.if-eq.false)),
      );
    }
