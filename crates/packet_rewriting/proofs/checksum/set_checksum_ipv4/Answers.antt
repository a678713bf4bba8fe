use Rattle.std.proofs.Common.{arith}
use Rattle.packet_rewriting.proofs.RightChecksums.{right_ipv4}
use Rattle.packet_rewriting.proofs.checksum.set_checksum_ipv4.Goals as goal

pub returns-in-Ok-clause-right : goal.returns-in-Ok-clause-right
returns-in-Ok-clause-right c =
    rw c.put_checksum.ensures.written (right_ipv4 c.args.source c.args.destination c.args.protocol c.in-Ok.checksum c.args.segment.now (grind arith) (grind arith) c.in-Ok.ensures.computed)
