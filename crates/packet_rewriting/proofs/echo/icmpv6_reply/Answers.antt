use Rattle.std.proofs.Common.{ℕ, ◌≡◌, ◌+◌, ◌*◌, ◌∙◌, List, [], ◌∷◌, add_comm, ap, arith, slice_index, sym}
use Rattle.std.proofs.lemmas.Grind.{common_steps}
use Rattle.etherparse.specs.WordSums.{AddsSlice, Complements, StandsForWords, folded_sum, little_endian_word_sum, ones_complement_sum}
use Rattle.packet_rewriting.proofs.echo.icmpv6_reply.Goals as goal

-- the words of a pseudo-header, of type and code, and of what comes after the checksum
summed : (pseudo_header rest : List ℕ) (first second sum : ℕ) → StandsForWords 0 pseudo_header first → StandsForWords first (129 ∷ 0 ∷ 0 ∷ 0 ∷ []) second
    → AddsSlice second rest sum → folded_sum sum ≡ ones_complement_sum (pseudo_header ∷ (129 ∷ 0 ∷ 0 ∷ 0 ∷ rest) ∷ [])
summed pseudo_header rest first second sum stands front adds =
    adds.sum ∙ ap folded_sum (add_comm second _) ∙ front _ ∙ stands _ ∙ ap folded_sum (omega arith)

-- they are all ones with the checksum among them
completed : (pseudo_header rest : List ℕ) (sum checksum low high : ℕ) → folded_sum sum ≡ ones_complement_sum (pseudo_header ∷ (129 ∷ 0 ∷ 0 ∷ 0 ∷ rest) ∷ [])
    → Complements sum checksum → low + 256 * high ≡ checksum → ones_complement_sum (pseudo_header ∷ (129 ∷ 0 ∷ low ∷ high ∷ rest) ∷ []) ≡ 65535
completed pseudo_header rest sum checksum low high sums complements bytes =
    let n : ℕ = little_endian_word_sum pseudo_header + (129 + little_endian_word_sum rest) in
    ap folded_sum (omega (arith, bytes)) ∙ complements.completes n (ap folded_sum (omega arith) ∙ sym sums)

pub returns-clause-made : goal.returns-clause-made
returns-clause-made c =
    let sums = summed _ _ _ _ _ c.ipv6_pseudo_header.ensures.sum c.add_4bytes.ensures.in_a_sum c.add_slice-sum.ensures.adds in
    grind (arith, common_steps, sums, c.ones_complement.ensures.complements.value)

pub returns-clause-right : goal.returns-clause-right
returns-clause-right c =
    let sums = summed _ _ _ _ _ c.ipv6_pseudo_header.ensures.sum c.add_4bytes.ensures.in_a_sum c.add_slice-sum.ensures.adds in
    let bytes = c.to_le_bytes.result in
    let written : slice_index bytes 0 + 256 * slice_index bytes 1 ≡ c.ones_complement.result = grind (arith, common_steps) in
    grind (arith, common_steps, completed _ _ _ _ _ _ sums c.ones_complement.ensures.complements written)
