use Rattle.std.proofs.Common.{◌∷◌, arith}
use Rattle.std.specs.Int.{to_be_bytes, w16}
use Rattle.packet_parts.proofs.PseudoHeader.{stands_for_joined}
use Rattle.packet_parts.proofs.checksum.ipv4_pseudo_header.Goals as goal

pub returns : goal.returns
returns c = record {
  sum = stands_for_joined c.args.source c.args.destination (0 ∷ c.args.protocol ∷ to_be_bytes w16 c.args.len) _ _ _ _ (grind arith) (grind arith) c.new.ensures.zero
      c.add_4bytes.ensures.in_a_sum c.add_4bytes-2.ensures.in_a_sum (grind (arith, c.to_be_bytes.ensures, c.add_4bytes-3.ensures.in_a_sum));
}
