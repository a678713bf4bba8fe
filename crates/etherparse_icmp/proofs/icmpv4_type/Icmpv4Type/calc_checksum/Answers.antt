use Rattle.std.proofs.Common.{[], add_comm, ap, arith, refl, ◌∙◌}
use Rattle.etherparse.specs.WordSums.{folded_sum, little_endian_word_sum}
use Rattle.etherparse_icmp.proofs.Checksums.{icmp_checksum_is}
use Rattle.etherparse_icmp.proofs.Icmpv4Layout.{has_words}
use Rattle.etherparse_icmp.specs.Icmpv4.{IsIcmpv4Written}
use Rattle.etherparse_icmp.proofs.icmpv4_type.Icmpv4Type.calc_checksum.Goals as goal

pub returns : goal.returns
returns c =
    let t = c.args.self.now in
    let payload = c.args.payload.now in
    let header = c.bytes_with-header.result.items in
    let words = little_endian_word_sum header in
    record {
      computed = rw c.swap_bytes.ensures
          (icmp_checksum_is (IsIcmpv4Written t) [] payload words c.add_slice-sum.result refl
          (λ n p l. has_words t header p n c.bytes_with-header.ensures.written l)
          (c.add_slice-sum.ensures.adds.sum
          ∙ ap folded_sum (add_comm c.add_slice-header_sum.result _)
          ∙ c.add_slice-header_sum.ensures.adds.in_a_sum _
          ∙ ap folded_sum
          (omega (arith, ap little_endian_word_sum c.as_slice.ensures.value, c.new.ensures)))
          _ (omega arith) c.ones_complement.ensures.complements);
    }
