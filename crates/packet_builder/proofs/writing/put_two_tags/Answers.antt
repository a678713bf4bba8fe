use Rattle.std.proofs.Common.{arith, refl}
use Rattle.packet_builder.proofs.Parts.{both}
use Rattle.packet_builder.proofs.writing.put_two_tags.Goals as goal

pub returns-clause-writes : goal.returns-clause-writes
returns-clause-writes c = both c.args.at c.put_tag-at.result c.put_tag.result c.args.out.now c.put_tag-at.new.out c.put_tag.new.out
    c.put_tag-at.ensures.writes c.put_tag.ensures.writes (omega (arith, c.put_tag.ensures.end))
    (λ p q first second. record { first = p; second = q; is_outer = first; is_inner = second; both = refl })
