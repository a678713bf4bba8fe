-- The checksum of a header whose bytes are known with each number in its checksum field.
use Rattle.std.proofs.Common.{ℕ, zero, suc, ◌≡◌, ◌+◌, ◌-◌, ◌%◌, ◌<◌, ◌⊎◌, List, ◌++◌, ap, arith}
use Rattle.std.proofs.Common.{inl, inr, length, length-append, refl, sym, w16, ◌∙◌}
use Rattle.std.specs.Int.{swap_bytes, to_be_bytes}
use Rattle.etherparse.proofs.FoldedSums.{folded_sum_value}
use Rattle.etherparse.proofs.WordSumLaws.{little_endian_word_sum-append}
use Rattle.etherparse.proofs.WordSumLaws.{little_endian_word_sum-swapped}
use Rattle.etherparse.specs.WordSums.{Complements, ComplementsWithNoZero, IsSumOf, checksum_of}
use Rattle.etherparse.specs.WordSums.{folded_sum, little_endian_word_sum, with_no_zero}
use Rattle.etherparse_transport.specs.TransportChecksum.{IsFoundRight, IsTcpChecksum, IsUdpChecksum}

-- the words of bytes with a number in their checksum field: those of the other fields, and the
-- number's
pub record HasWords (others n : ℕ) (bytes : List ℕ) : Type 0 where
  pub fits : n < 65536
  pub even : length bytes % 2 ≡ 0
  pub words : little_endian_word_sum bytes ≡ others + little_endian_word_sum (to_be_bytes w16 n)

-- addresses of an even length, and after them an even number of bytes
pub even_pseudo_header : (source destination last : List ℕ) → length source % 2 ≡ 0
    → length destination % 2 ≡ 0 → length last % 2 ≡ 0
    → length (source ++ (destination ++ last)) % 2 ≡ 0
even_pseudo_header source destination last a b c = omega (
  arith,
  a,
  b,
  c,
  length-append source (destination ++ last),
  length-append destination last,
)

-- a number of sixteen bits that makes a sum all ones is its complement, or all ones for 0
completing : (sum m checksum : ℕ) → m < 65536 → folded_sum (sum + m) ≡ 65535
    → checksum ≡ checksum_of sum → (m ≡ checksum) ⊎ ((checksum ≡ 0) × (m ≡ 65535))
completing sum m checksum fits all_ones value =
    let e = folded_sum_value sum in
    let f = folded_sum_value (sum + m) in
    grind arith

-- what a complement is, in either form of zero
abbrev IsComplement : ℕ → ℕ → Type 0
IsComplement n checksum = (little_endian_word_sum (to_be_bytes w16 n) ≡ checksum)
    ⊎ ((checksum ≡ 0) × (little_endian_word_sum (to_be_bytes w16 n) ≡ 65535))

tcp_only : (n checksum : ℕ) → n < 65536 → IsComplement n checksum
    → (n ≡ swap_bytes w16 checksum) ⊎ ((swap_bytes w16 checksum ≡ 0) × (n ≡ 65535))
tcp_only n checksum fits (inl e) = inl (omega (arith, fits, e))
tcp_only n checksum fits (inr e) = inr (omega (arith, e.0), omega (arith, fits, e.1))

udp_only : (n checksum : ℕ) → n < 65536 → IsComplement n checksum
    → (n ≡ swap_bytes w16 (with_no_zero checksum))
    ⊎ ((swap_bytes w16 (with_no_zero checksum) ≡ 65535) × (n ≡ 0))
udp_only n zero fits (inl e) = inr (refl, omega (arith, fits, e))
udp_only n zero fits (inr e) = inl (omega (arith, fits, e.1))
udp_only n (suc checksum) fits (inl e) = inl (omega (arith, fits, e))
udp_only n (suc checksum) fits (inr e) = absurd (omega (arith, e.0))

module _ (HasBytesWith : ℕ → List ℕ → Type 0) (before payload : List ℕ) (others sum : ℕ)
    (even : length before % 2 ≡ 0)
    (has_words : (n : ℕ) (p : List ℕ) → HasBytesWith n p → HasWords others n p)
    (summed : folded_sum sum ≡ folded_sum
    (little_endian_word_sum before + (others + little_endian_word_sum payload))) where
  -- the words besides the checksum
  abbrev besides : ℕ
  besides = little_endian_word_sum before + (others + little_endian_word_sum payload)

  -- what a receiver sums, and what is summed with 0 in the field
  received : (n : ℕ) (p : List ℕ) → HasBytesWith n p
      → little_endian_word_sum before + little_endian_word_sum (p ++ payload)
      ≡ besides + little_endian_word_sum (to_be_bytes w16 n)
  received n p h = let w = has_words n p h in
      omega (arith, little_endian_word_sum-append p payload w.even, w.words)

  zeroed : (p : List ℕ) → HasBytesWith 0 p → IsSumOf sum (before ++ (p ++ payload))
  zeroed p h = summed ∙ ap folded_sum
      (omega (arith, received 0 p h, little_endian_word_sum-append before (p ++ payload) even))

  right : (checksum : ℕ) (p : List ℕ) → checksum < 65536
      → HasBytesWith (swap_bytes w16 checksum) p → folded_sum (besides + checksum) ≡ 65535
      → IsFoundRight before p payload
  right checksum p fits h completes = ap folded_sum
      (omega (arith, received _ p h, little_endian_word_sum-swapped checksum fits)) ∙ completes

  complement : (n : ℕ) (p : List ℕ) → HasBytesWith n p → IsFoundRight before p payload
      → IsComplement n (checksum_of sum)
  complement n p h found = completing besides _ (checksum_of sum)
      (omega (arith, (has_words n p h).fits)) (ap folded_sum (omega (arith, received n p h)) ∙ found)
      (ap (λ m. 65535 - m) summed)

  pub tcp_checksum : (checksum : ℕ) → checksum < 65536 → Complements sum checksum
      → IsTcpChecksum HasBytesWith before payload (swap_bytes w16 checksum)
  tcp_checksum checksum fits c = record {
    value = λ p h. c.network_order (before ++ (p ++ payload)) (zeroed p h);
    right = λ p h. right checksum p fits h (c.completes besides (sym summed));
    only = λ n p h found. rw c.value (tcp_only n (checksum_of sum) (has_words n p h).fits
        (complement n p h found));
  }

  pub udp_checksum : (checksum : ℕ) → checksum < 65536 → ComplementsWithNoZero sum checksum
      → IsUdpChecksum HasBytesWith before payload (swap_bytes w16 checksum)
  udp_checksum checksum fits c = record {
    value = λ p h. c.network_order (before ++ (p ++ payload)) (zeroed p h);
    right = λ p h. right checksum p fits h (c.completes besides (sym summed));
    only = λ n p h found. rw c.value (udp_only n (checksum_of sum) (has_words n p h).fits
        (complement n p h found));
  }
