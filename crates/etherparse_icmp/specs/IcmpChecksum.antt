-- The checksum of a message of ICMP (RFC 792) or ICMPv6 (RFC 4443 section 2.3).
use Rattle.std.specs.Prelude.{ℕ, ◌≡◌, ◌⊎◌, List, [], ◌∷◌, ◌++◌}
use Rattle.etherparse.specs.WordSums.{checksum_of, network_order_word_sum, ones_complement_sum}

-- The ones-complement of the ones-complement sum of the words of the whole message, and before it
-- of the pseudo-header. ICMP has none: no bytes.
abbrev pub icmp_checksum : List ℕ → List ℕ → ℕ
icmp_checksum pseudo_header message =
    checksum_of (network_order_word_sum (pseudo_header ++ message))

-- the message sums to all ones with the pseudo-header: a receiver finds its checksum right
abbrev pub IsMessageRight : List ℕ → List ℕ → Type 0
IsMessageRight pseudo_header message = ones_complement_sum (pseudo_header ∷ message ∷ []) ≡ 65535

-- The checksum of a message whose header has these bytes with each number in its checksum field:
-- with 0 there it is computed; a receiver finds it right, and no other number but 65535 for 0.
pub record IsIcmpChecksum (HasBytesWith : ℕ → List ℕ → Type 0) (pseudo_header payload : List ℕ)
    (checksum : ℕ) : Type 0 where
  pub value : (header : List ℕ) → HasBytesWith 0 header
      → checksum ≡ icmp_checksum pseudo_header (header ++ payload)
  pub right : (header : List ℕ) → HasBytesWith checksum header
      → IsMessageRight pseudo_header (header ++ payload)
  pub only : (other : ℕ) (header : List ℕ) → HasBytesWith other header
      → IsMessageRight pseudo_header (header ++ payload)
      → (other ≡ checksum) ⊎ ((checksum ≡ 0) × (other ≡ 65535))
