use Rattle.std.proofs.Common.{ap, rules, ◌∙◌, ◌*◌, ◌+◌}
use Rattle.etherparse.specs.IpEcn.{ecn_value}
use Rattle.uses.proofs.forward.ipv4_mark_in_place.Goals as goal

pub returns-clause-marked : goal.returns-clause-marked
returns-clause-marked c =
    let begins = c.in_ok-header.ensures.reads.reads in
    let byte = c.differentiated_services_byte.ensures.value ∙ ap (λ h. h.dscp * 4 + ecn_value h.ecn) c.set_dscp.ensures.set in
    record { header = c.in_ok-header.header; rest = _; begins = begins; next = c.set_dscp.new.self; set = c.set_dscp.ensures.set; changed = rw byte (search rules); written = c.set_dscp.ensures.in_place _ _ begins }
