-- The checksum of a UDP or TCP header (RFC 768, RFC 9293 section 3.1, RFC 8200 section 8.1).
use Rattle.std.specs.Prelude.{ℕ, ◌≡◌, ◌⊎◌, List, [], ◌∷◌, ◌++◌}
use Rattle.etherparse.specs.WordSums.{checksum_of, network_order_word_sum, ones_complement_sum}
use Rattle.etherparse.specs.WordSums.{with_no_zero}

-- The ones-complement of the ones-complement sum of the words of the pseudo-header, of the header,
-- in which the checksum is 0, and of the payload.
abbrev pub transport_checksum : List ℕ → List ℕ → List ℕ → ℕ
transport_checksum pseudo_header header payload =
    checksum_of (network_order_word_sum (pseudo_header ++ (header ++ payload)))

-- header and payload sum to all ones with the pseudo-header: a receiver finds the checksum right,
-- if the length field of UDP counts both
abbrev pub IsFoundRight : List ℕ → List ℕ → List ℕ → Type 0
IsFoundRight pseudo_header header payload =
    ones_complement_sum (pseudo_header ∷ (header ++ payload) ∷ []) ≡ 65535

-- The checksum of TCP, for a header that has these bytes with each number in its checksum field:
-- with 0 there it is computed; a receiver finds it right, and no other number but 65535 for 0.
pub record IsTcpChecksum (HasBytesWith : ℕ → List ℕ → Type 0) (pseudo_header payload : List ℕ)
    (checksum : ℕ) : Type 0 where
  pub value : (header : List ℕ) → HasBytesWith 0 header
      → checksum ≡ transport_checksum pseudo_header header payload
  pub right : (header : List ℕ) → HasBytesWith checksum header
      → IsFoundRight pseudo_header header payload
  pub only : (other : ℕ) (header : List ℕ) → HasBytesWith other header
      → IsFoundRight pseudo_header header payload
      → (other ≡ checksum) ⊎ ((checksum ≡ 0) × (other ≡ 65535))

-- that of UDP, which is 65535 in the place of 0, since 0 says that there is none
pub record IsUdpChecksum (HasBytesWith : ℕ → List ℕ → Type 0) (pseudo_header payload : List ℕ)
    (checksum : ℕ) : Type 0 where
  pub value : (header : List ℕ) → HasBytesWith 0 header
      → checksum ≡ with_no_zero (transport_checksum pseudo_header header payload)
  pub right : (header : List ℕ) → HasBytesWith checksum header
      → IsFoundRight pseudo_header header payload
  pub only : (other : ℕ) (header : List ℕ) → HasBytesWith other header
      → IsFoundRight pseudo_header header payload
      → (other ≡ checksum) ⊎ ((checksum ≡ 65535) × (other ≡ 0))
