use Rattle.std.proofs.Common.{arith, refl}
use Rattle.packet_builder.proofs.Parts.{both}
use Rattle.packet_builder.proofs.writing.put_link_headers.Goals as goal

pub returns-clause-writes : goal.returns-clause-writes
returns-clause-writes c = both 0 c.put_link-at.result c.put_tags.result c.args.out.now c.put_link-at.new.out c.put_tags.new.out
    c.put_link-at.ensures.writes c.put_tags.ensures.writes (omega (arith, c.put_tags.ensures.end))
    (λ p q is_p is_q. record { first = p; tags = q; is_link = rw (c.first_ether_type-first.ensures.value) at is_p; are_tags = is_q; both = refl })
