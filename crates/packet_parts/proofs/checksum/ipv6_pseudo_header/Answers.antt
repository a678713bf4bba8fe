use Rattle.std.proofs.Common.{◌++◌, [], ◌∷◌, arith}
use Rattle.std.specs.Int.{to_be_bytes, w32}
use Rattle.packet_parts.proofs.PseudoHeader.{stands_for_joined}
use Rattle.packet_parts.proofs.checksum.ipv6_pseudo_header.Goals as goal

pub returns : goal.returns
returns c = record {
  sum = stands_for_joined c.args.source c.args.destination (to_be_bytes w32 c.args.len ++ (0 ∷ 0 ∷ 0 ∷ c.args.number ∷ [])) _ _ _ _ (grind arith) (grind arith) c.new.ensures.zero
      c.add_16bytes.ensures.in_a_sum c.add_16bytes-2.ensures.in_a_sum (grind (arith, c.to_be_bytes.ensures, c.add_8bytes.ensures.in_a_sum));
}
