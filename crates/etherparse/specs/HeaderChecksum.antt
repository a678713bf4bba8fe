-- The checksum of an IPv4 header (RFC 791 section 3.1, RFC 1071 section 1).
use Rattle.std.specs.Prelude.{ℕ, ◌≡◌, ◌+◌, ◌↔◌, List, [], ◌∷◌, slice_set, take}
use Rattle.std.specs.Int.{to_be_bytes, w16}
use Rattle.etherparse_base.specs.WordSums.{SumsToAllOnes, checksum_of, network_order_word_sum}
use Rattle.etherparse.specs.Ipv4Header.{IsIpv4Layout, IsIpv4LayoutWith, ipv4_header_len}
use Rattle.etherparse.specs.Reading.{BeginsWith}
use Rattle.etherparse.specs.declared.net.ipv4_header.Ipv4Header.{Ipv4Header}

-- the same bytes with a part of them overwritten, from an offset on
abbrev pub with_part : ℕ → List ℕ → List ℕ → List ℕ
with_part offset [] bytes = bytes
with_part offset (byte ∷ part) bytes = with_part (offset + 1) part (slice_set bytes offset byte)

-- the checksum of a header's words, with 0 for its checksum field: bytes 10 and 11
abbrev pub header_checksum_of : List ℕ → ℕ
header_checksum_of bytes = checksum_of (network_order_word_sum (with_part 10 (0 ∷ 0 ∷ []) bytes))

-- the same bytes with another field, from an offset on, and another checksum
abbrev pub with_field_and_checksum : ℕ → List ℕ → ℕ → List ℕ → List ℕ
with_field_and_checksum offset field checksum bytes =
    with_part 10 (to_be_bytes w16 checksum) (with_part offset field bytes)

-- with either reserved bit, a checksum that was the computed one still is after a change, and a
-- receiver finds it right exactly when it was right before
pub record KeepsChecksum (old new : Ipv4Header) : Type 0 where
  pub stays_computed : (reserved : ℕ) (before after : List ℕ)
      → IsIpv4LayoutWith old reserved before → IsIpv4LayoutWith new reserved after
      → old.header_checksum ≡ header_checksum_of before
      → new.header_checksum ≡ header_checksum_of after
  pub all_ones : (reserved : ℕ) (before after : List ℕ)
      → IsIpv4LayoutWith old reserved before → IsIpv4LayoutWith new reserved after
      → SumsToAllOnes before ↔ SumsToAllOnes after

-- the changed packet begins with this header and the rest; its checksum is right exactly when it
-- was before
pub record BecomesPacketOf (packet changed : List ℕ) (header : Ipv4Header) (rest : List ℕ)
    : Type 0 where
  pub begins : BeginsWith IsIpv4Layout changed header rest
  pub all_ones : SumsToAllOnes (take (ipv4_header_len header) packet)
      ↔ SumsToAllOnes (take (ipv4_header_len header) changed)

-- each packet with the old header becomes one with the new, if the field, from an offset on, and
-- the checksum of the new header overwrite the old ones
abbrev pub ChangesInPlace : Ipv4Header → Ipv4Header → ℕ → List ℕ → Type 0
ChangesInPlace old new offset field = (packet rest : List ℕ)
    → BeginsWith IsIpv4Layout packet old rest → BecomesPacketOf packet
    (with_field_and_checksum offset field new.header_checksum packet) new rest
