use Rattle.std.proofs.Common.{◌≡◌, ◌+◌, ◌%◌, ◌∷◌, [], ◌++◌, add_comm, ap, arith, length}
use Rattle.std.proofs.Common.{length-append, w32, ◌∙◌}
use Rattle.std.specs.Int.{to_be_bytes}
use Rattle.etherparse.specs.WordSums.{folded_sum, little_endian_word_sum}
use Rattle.etherparse_icmp.proofs.Checksums.{icmp_checksum_is}
use Rattle.etherparse_icmp.proofs.Icmpv6Layout.{has_words}
use Rattle.etherparse_icmp.specs.Icmpv6.{IsIcmpv6Written}
use Rattle.packet_parts.specs.Checksum.{ipv6_pseudo_header}
use Rattle.etherparse_icmp.proofs.icmpv6_type.Icmpv6Type.checksum_of_message.Goals as goal

pub returns : goal.returns
returns c =
    let a = c.args in
    let len = 8 + length a.payload.now in
    let before = ipv6_pseudo_header a.source a.destination 58 len in
    let last = to_be_bytes w32 len ++ (0 ∷ 0 ∷ 0 ∷ 58 ∷ []) in
    let even : length before % 2 ≡ 0 =
    omega (
      arith,
      length-append a.source (a.destination ++ last),
      length-append a.destination last,
    ) in
    record {
      computed = rw c.swap_bytes.ensures
          (icmp_checksum_is (IsIcmpv6Written a.self.now) before a.payload.now
          (little_endian_word_sum c.bytes_with.result) c.add_slice-sum.result even
          (λ n p l. has_words a.self.now _ p n c.bytes_with.ensures.written l)
          (c.add_slice-sum.ensures.adds.sum ∙ ap folded_sum (add_comm c.add_8bytes.result _)
          ∙ c.add_8bytes.ensures.in_a_sum _ ∙ c.ipv6_pseudo_header-pseudo_header.ensures.sum _
          ∙ ap folded_sum (omega arith))
          _ (omega arith) c.ones_complement.ensures.complements);
    }
