use Rattle.std.proofs.Common.{ℕ, ◌≡◌, ◌+◌, ◌%◌, ◌≤◌, List, ◌++◌, length, take, drop, add_comm, ap}
use Rattle.std.proofs.Common.{arith, length-append, length-drop, length-take, ◌∙◌, w16}
use Rattle.std.specs.Int.{to_be_bytes}
use Rattle.std.proofs.lemmas.List.{take_rest}
use Rattle.std.proofs.lemmas.List.Edits.{sets-eq}
use Rattle.etherparse.proofs.WordSumLaws.{little_endian_word_sum-append}
use Rattle.etherparse.specs.WordSums.{folded_sum, little_endian_word_sum}
use Rattle.etherparse_transport.proofs.Checksums.{HasWords, tcp_checksum}
use Rattle.etherparse_transport.specs.TcpChecksum.{IsTcpFrontWith}
use Rattle.etherparse_transport.proofs.tcp.TcpHeaderSlice.checksum_after.Goals as goal

-- the words of a header with a number in bytes 16 and 17, beside those of its other bytes
has_words : (s : List ℕ) (n : ℕ) (p : List ℕ) → 20 ≤ length s → length s % 2 ≡ 0
    → IsTcpFrontWith s n p
    → HasWords (little_endian_word_sum (take 16 s) + little_endian_word_sum (drop 18 s)) n p
has_words s n p long even is =
    let word = to_be_bytes w16 n in
    let parts : p ≡ (take 16 s ++ word) ++ drop 18 s = is.1 ∙ sets-eq word s 16 (omega arith) in
    let front = length-take 16 s in
    let first = length-append (take 16 s) word in
    record {
      fits = is.0;
      even = omega (
        arith,
        ap length parts,
        length-append (take 16 s ++ word) (drop 18 s),
        first,
        front,
        length-drop 18 s,
      );
      words = ap little_endian_word_sum parts
          ∙ omega (
            arith,
            little_endian_word_sum-append (take 16 s ++ word) (drop 18 s)
                (omega (arith, first, front)),
            little_endian_word_sum-append (take 16 s) word
                (omega (arith, front)),
          );
    }

pub returns : goal.returns
returns c = record {
  computed = λ before stands even.
      let v = c.args.self.now in
      let s = v.slice.now in
      rw c.swap_bytes.ensures (
      tcp_checksum (IsTcpFrontWith s) before c.args.payload.now
      (little_endian_word_sum (take 16 s) + little_endian_word_sum (drop 18 s))
      c.add_slice-sum.result even
      (λ n p is. has_words s n p (omega (arith, v.offset, v.len)) (omega (arith, v.len)) is)
      (c.add_slice-sum.ensures.adds.sum ∙ ap folded_sum (add_comm c.add_slice-header.result _)
      ∙ c.add_slice-header.ensures.adds.in_a_sum _
      ∙ c.add_slice-front.ensures.adds.in_a_sum _ ∙ stands _
      ∙ ap folded_sum (omega (arith, ap little_endian_word_sum (take_rest s 18))))
      _ (omega arith) c.ones_complement.ensures.complements);
}
