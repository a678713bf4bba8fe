use Rattle.std.proofs.Common.{add_comm, ap, arith, ◌∙◌}
use Rattle.etherparse.specs.WordSums.{folded_sum, little_endian_word_sum}
use Rattle.etherparse_transport.proofs.Checksums.{udp_checksum}
use Rattle.etherparse_transport.proofs.UdpLayout.{has_words}
use Rattle.etherparse_transport.specs.UdpChecksum.{HasUdpBytesWith}
use Rattle.etherparse_transport.proofs.udp.UdpHeader.checksum_after.Goals as goal

pub returns-clause-computed : goal.returns-clause-computed
returns-clause-computed c = λ before stands even. rw c.swap_bytes.ensures (
    let h = c.args.self.now in
    udp_checksum (HasUdpBytesWith h) before c.args.payload.now
    (little_endian_word_sum c.to_bytes.result) c.add_slice-sum.result even
    (λ n p l. has_words h _ p n c.to_bytes.ensures.layout l)
    (c.add_slice-sum.ensures.adds.sum ∙ ap folded_sum (add_comm c.add_8bytes.result _)
    ∙ c.add_8bytes.ensures.in_a_sum _ ∙ stands _ ∙ ap folded_sum (omega arith))
    _ (omega arith) c.to_ones_complement_with_no_zero.ensures.complements)
