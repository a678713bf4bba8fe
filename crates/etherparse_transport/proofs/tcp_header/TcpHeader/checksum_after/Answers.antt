use Rattle.std.proofs.Common.{◌≡◌, ◌+◌, ◌++◌, add_comm, ap, arith, refl, sym, ◌∙◌}
use Rattle.etherparse.proofs.WordSumLaws.{little_endian_word_sum-append}
use Rattle.etherparse.specs.WordSums.{folded_sum, little_endian_word_sum}
use Rattle.etherparse_transport.proofs.Checksums.{tcp_checksum}
use Rattle.etherparse_transport.proofs.TcpLayout.{front_spells, has_words, offset_byte, spelling}
use Rattle.etherparse_transport.specs.TcpChecksum.{HasTcpBytesWith}
use Rattle.etherparse_transport.proofs.tcp_header.TcpHeader.checksum_after.Goals as goal

pub returns : goal.returns
returns c = record {
  computed = λ before stands even.
      let h = c.args.self.now in
      let zeroed = record h { checksum = 0 } in
      let front = c.front-front.result in
      let options = c.as_slice.result.now in
      let words = little_endian_word_sum (spelling zeroed (offset_byte h 0)) in
      let spells = ap little_endian_word_sum (front_spells zeroed front options
      (front ++ options) refl c.as_slice.ensures.value c.front-front.ensures.value) in
      let parts : words ≡ little_endian_word_sum front + little_endian_word_sum options = sym spells
      ∙ little_endian_word_sum-append front options (omega arith) in
      rw c.swap_bytes.ensures (
      tcp_checksum (HasTcpBytesWith h) before c.args.payload.now words c.add_slice-sum.result even
      (has_words h)
      (c.add_slice-sum.ensures.adds.sum ∙ ap folded_sum (add_comm c.add_slice-header.result _)
      ∙ c.add_slice-header.ensures.adds.in_a_sum _
      ∙ c.add_slice-fixed.ensures.adds.in_a_sum _ ∙ stands _ ∙ ap folded_sum (omega (arith, parts)))
      _ (omega arith) c.ones_complement.ensures.complements);
}
