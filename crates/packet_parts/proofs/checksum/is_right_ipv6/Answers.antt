use Rattle.std.proofs.Common.{ℕ, ◌≡◌, [], ◌∷◌, arith, length, subst, sym}
use Rattle.std.proofs.lemmas.Bool.Decides.{not_from_Decides}
use Rattle.etherparse.specs.WordSums.{ones_complement_sum}
use Rattle.packet_parts.proofs.PseudoHeader.{judges}
use Rattle.packet_parts.specs.Checksum.{ipv6_pseudo_header}
use Rattle.packet_parts.proofs.checksum.is_right_ipv6.Goals as goal

pub returns : goal.returns
returns c =
    let covered = c.args.covered.now in
    let told : c.in-Ok.len ≡ length covered = grind (arith, c.in-Ok.is, c.try_from.ensures) in
    let judged = judges _ covered _ _ _ c.ipv6_pseudo_header-sum.ensures.sum c.add_slice.ensures.adds c.ones_complement.ensures.complements in
    let sums = λ (n : ℕ). ones_complement_sum (ipv6_pseudo_header c.args.source c.args.destination c.args.number n ∷ covered ∷ []) ≡ 65535 in
    record {
      value = (
        λ zero. record {
          there = not_from_Decides _ c.is_without_checksum.ensures.value c.if-is_without_checksum.false;
          fits = grind (arith, c.in-Ok.is, c.try_from.ensures);
          sum = subst sums told (judged.0 zero);
        },
        λ right. judged.1 (subst sums (sym told) right.sum),
      );
    }
