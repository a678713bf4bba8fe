use Rattle.std.proofs.Common.{arith}
use Rattle.std.proofs.lemmas.Grind.{common_steps}
use Rattle.packet_capture.proofs.capture.next_record.Goals as goal

pub returns : goal.returns
returns c = record { reads = grind (arith, common_steps); only = grind (arith, common_steps); shorter = omega arith }
