-- Sums that begin with a pseudo-header.
use Rattle.std.proofs.Common.{ℕ, ◌≡◌, ◌==◌, ◌%◌, ◌↔◌, ◌∙◌, IsTrue, List, [], ◌∷◌, ◌++◌, add_comm, ap, arith, length}
use Rattle.etherparse.proofs.WordSumLaws.{little_endian_word_sum-append}
use Rattle.etherparse.specs.WordSums.{AddsSlice, Complements, StandsForWords, folded_sum, ones_complement_sum}

-- both addresses and what follows them, added one after the other from 0, are added as one piece
pub stands_for_joined : (source destination last : List ℕ) (start first second sum : ℕ) → length source % 2 ≡ 0 → length destination % 2 ≡ 0 → start ≡ 0
    → StandsForWords start source first → StandsForWords first destination second → StandsForWords second last sum
    → StandsForWords 0 (source ++ (destination ++ last)) sum
stands_for_joined source destination last start first second sum even other zero adds_source adds_destination adds_last = λ n.
    adds_last n ∙ adds_destination _ ∙ adds_source _
    ∙ ap folded_sum (omega (arith, zero, little_endian_word_sum-append source (destination ++ last) even, little_endian_word_sum-append destination last other))

-- a piece, and more bytes after it: the complement is 0 where they sum to all ones
pub judges : (before covered : List ℕ) (first sum checksum : ℕ) → StandsForWords 0 before first → AddsSlice first covered sum → Complements sum checksum
    → IsTrue (checksum == 0) ↔ (ones_complement_sum (before ∷ covered ∷ []) ≡ 65535)
judges before covered first sum checksum stands adds complements =
    let same : folded_sum sum ≡ ones_complement_sum (before ∷ covered ∷ []) = adds.sum ∙ ap folded_sum (add_comm first _) ∙ stands _ ∙ ap folded_sum (omega arith) in
    grind (arith, complements.value, same)
