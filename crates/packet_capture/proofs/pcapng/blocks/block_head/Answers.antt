use Rattle.std.proofs.Common.{arith, refl}
use Rattle.std.proofs.lemmas.Grind.{common_steps}
use Rattle.packet_capture.proofs.pcapng.blocks.block_head.Goals as goal

pub returns-then-not-has_right_length-clause-reads :
    goal.returns-then-not-has_right_length-clause-reads
returns-then-not-has_right_length-clause-reads c = record {
  head = record { order = c.in-Ok.order; block_type = c.from_number.result; total_len = c.u32_of-2.result };
  front = grind (arith, common_steps);
  is_type = refl;
  is_len = refl;
  wrong = grind (arith, common_steps);
}
