use Rattle.std.proofs.Common.{arith, ◌∙◌}
use Rattle.etherparse.proofs.HeaderChecksum.{computed_of}
use Rattle.etherparse.proofs.net.ipv4_header.Ipv4Header.calc_header_checksum.Goals as goal

pub returns : goal.returns
returns c =
    let h = c.args.self.now in
    let computed = computed_of h c.front.result _ _ _ _ c.front.ensures.value c.as_slice.ensures.value (omega arith)
    c.sum_of_fixed-fixed.ensures.in_a_sum c.add_options.ensures.in_a_sum
    (λ bytes same. c.swap_bytes.ensures ∙ c.ones_complement.ensures.complements.network_order bytes same) in
    record { value = computed.0 h.header_checksum; whatever_is_stored = computed.0; within = computed.1 }
