-- The checksum of a message whose header's bytes are known with each number in its checksum field.
use Rattle.std.proofs.Common.{ℕ, ◌≡◌, ◌+◌, ◌-◌, ◌%◌, ◌<◌, ◌⊎◌, List, ◌++◌, ap, arith, inl, inr}
use Rattle.std.proofs.Common.{length, sym, w16, ◌∙◌}
use Rattle.std.specs.Int.{swap_bytes, to_be_bytes}
use Rattle.etherparse.proofs.FoldedSums.{folded_sum_value}
use Rattle.etherparse.proofs.WordSumLaws.{little_endian_word_sum-append}
use Rattle.etherparse.proofs.WordSumLaws.{little_endian_word_sum-swapped}
use Rattle.etherparse.specs.WordSums.{Complements, IsSumOf, checksum_of, folded_sum}
use Rattle.etherparse.specs.WordSums.{little_endian_word_sum}
use Rattle.etherparse_icmp.specs.IcmpChecksum.{IsIcmpChecksum, IsMessageRight}

-- the words of a header with a number in its checksum field: those of its other fields, and the
-- number's
pub record HasWords (others n : ℕ) (header : List ℕ) : Type 0 where
  pub fits : n < 65536
  pub even : length header % 2 ≡ 0
  pub words : little_endian_word_sum header ≡ others + little_endian_word_sum (to_be_bytes w16 n)

-- a number of sixteen bits that makes a sum all ones is its complement, or all ones for 0
completing : (sum m checksum : ℕ) → m < 65536 → folded_sum (sum + m) ≡ 65535
    → checksum ≡ checksum_of sum → (m ≡ checksum) ⊎ ((checksum ≡ 0) × (m ≡ 65535))
completing sum m checksum fits all_ones value =
    let e = folded_sum_value sum in
    let f = folded_sum_value (sum + m) in
    grind arith

-- the same of the number whose bytes are exchanged
swapped : (n checksum : ℕ) → n < 65536 → (little_endian_word_sum (to_be_bytes w16 n) ≡ checksum)
    ⊎ ((checksum ≡ 0) × (little_endian_word_sum (to_be_bytes w16 n) ≡ 65535))
    → (n ≡ swap_bytes w16 checksum) ⊎ ((swap_bytes w16 checksum ≡ 0) × (n ≡ 65535))
swapped n checksum fits (inl e) = inl (omega (arith, fits, e))
swapped n checksum fits (inr e) = inr (omega (arith, e.0), omega (arith, fits, e.1))

module _ (HasBytesWith : ℕ → List ℕ → Type 0) (before payload : List ℕ) (others sum : ℕ)
    (even : length before % 2 ≡ 0)
    (has_words : (n : ℕ) (p : List ℕ) → HasBytesWith n p → HasWords others n p)
    (summed : folded_sum sum ≡ folded_sum
    (little_endian_word_sum before + (others + little_endian_word_sum payload))) where
  -- the words besides the checksum
  abbrev besides : ℕ
  besides = little_endian_word_sum before + (others + little_endian_word_sum payload)

  -- what a receiver sums, and what is summed with 0 in the field
  received : (n : ℕ) (p : List ℕ) → HasBytesWith n p
      → little_endian_word_sum before + little_endian_word_sum
      (p ++ payload) ≡ besides + little_endian_word_sum (to_be_bytes w16 n)
  received n p h = let w = has_words n p h in
      omega (arith, little_endian_word_sum-append p payload w.even, w.words)

  all_ones : (n : ℕ) (p : List ℕ) → HasBytesWith n p → IsMessageRight before (p ++ payload)
      → folded_sum (besides + little_endian_word_sum (to_be_bytes w16 n)) ≡ 65535
  all_ones n p h right = ap folded_sum (omega (arith, received n p h)) ∙ right

  zeroed : (p : List ℕ) → HasBytesWith 0 p → IsSumOf sum (before ++ (p ++ payload))
  zeroed p h = summed
      ∙ ap folded_sum
      (omega (arith, received 0 p h, little_endian_word_sum-append before (p ++ payload) even))

  pub icmp_checksum_is : (checksum : ℕ) → checksum < 65536 → Complements sum checksum
      → IsIcmpChecksum HasBytesWith before payload (swap_bytes w16 checksum)
  icmp_checksum_is checksum fits c = record {
    value = λ p h. c.network_order (before ++ (p ++ payload)) (zeroed p h);
    right = λ p h. ap folded_sum
        (omega (arith, received _ p h, little_endian_word_sum-swapped checksum fits))
        ∙ c.completes besides (sym summed);
    only = λ n p h right. swapped n checksum (has_words n p h).fits
        (completing besides _ checksum (omega (arith, (has_words n p h).fits))
        (all_ones n p h right) (c.value ∙ ap (λ m. 65535 - m) summed));
  }
