use Rattle.std.proofs.Common.{arith, refl}
use Rattle.packet_builder.proofs.Parts.{both}
use Rattle.packet_builder.proofs.writing.put_upper.Goals as goal

pub returns-clause-writes : goal.returns-clause-writes
returns-clause-writes c = both c.args.at c.put-at.result c.put.result c.args.out.now c.put-at.new.out c.put.new.out
    c.put-at.ensures.writes c.put.ensures.writes (omega (arith, c.put.ensures.end)) (λ p q is_p is_q. rw (is_p, is_q) refl)
