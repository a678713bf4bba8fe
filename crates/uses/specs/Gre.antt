-- The GRE header (RFC 2784, RFC 2890).
use Rattle.std.specs.Prelude.{ℕ, ◌≡◌, ◌≢◌, ◌+◌, ◌*◌, ◌/◌, ◌%◌, ◌^◌, ◌<◌, ◌≤◌, ◌⊎◌, ◌==◌}
use Rattle.std.specs.Prelude.{List, [], ◌∷◌, ◌++◌, length, slice_index, slice_range}
use Rattle.std.specs.Prelude.{Option, Some, None, Result, if◌then◌else◌}
use Rattle.std.specs.Int.{from_be_bytes, to_be_bytes, w16, w32}
use Rattle.etherparse.specs.Bytes.{IsBytes}
use Rattle.etherparse.specs.HeaderChecksum.{with_part}
use Rattle.etherparse.specs.Reading.{Reads}
use Rattle.etherparse.specs.WordSums.{checksum_of, network_order_word_sum}
use Rattle.uses.specs.declared.gre.GreCause.{GreCause}
use Rattle.uses.specs.declared.gre.GreCause.TheVariants as cause
use Rattle.uses.specs.declared.gre.GreError.{GreError}
use Rattle.uses.specs.declared.gre.GreHeader.{GreHeader}

-- a bit of the first byte, from C at 7 on; K is at 5, S at 4
abbrev pub flag_at : ℕ → List ℕ → ℕ
flag_at place s = slice_index s 0 / 2 ^ place % 2

-- where the key and the sequence number are, if they are there: each field has four bytes
abbrev pub key_at : List ℕ → ℕ
key_at s = 4 + 4 * flag_at 7 s

abbrev pub sequence_at : List ℕ → ℕ
sequence_at s = key_at s + 4 * flag_at 5 s

-- the length of the header, which its flags say
abbrev pub gre_len_of : List ℕ → ℕ
gre_len_of s = sequence_at s + 4 * flag_at 4 s

-- a receiver discards the packet: bit 1, counted from the highest, is set, or bit 4 or 5, or the
-- version is not 0
abbrev pub IsUnsupported : List ℕ → Type 0
IsUnsupported s =
    (flag_at 6 s ≡ 1) ⊎ (slice_index s 0 / 2 ^ 2 % 2 ^ 2 ≢ 0) ⊎ (slice_index s 1 % 2 ^ 3 ≢ 0)

-- a field that is there if its flag is 1
abbrev pub if_set : ℕ → ℕ → Option ℕ
if_set flag field = if flag == 1 then Some field else None

abbrev pub word_at : List ℕ → ℕ → ℕ
word_at s at = from_be_bytes w32 (slice_range s at (at + 4))

-- The bytes of a header. Bits 6 to 12 are ignored, and so are the two bytes after the checksum.
pub record IsGreLayout (header : GreHeader) (bytes : List ℕ) : Type 0 where
  pub len : length bytes ≡ gre_len_of bytes
  pub are_bytes : IsBytes bytes
  pub supported : ¬ IsUnsupported bytes
  pub protocol_type : from_be_bytes w16 (slice_range bytes 2 4) ≡ header.protocol_type
  pub checksum : if_set (flag_at 7 bytes) (from_be_bytes w16 (slice_range bytes 4 6))
      ≡ header.checksum
  pub key : if_set (flag_at 5 bytes) (word_at bytes (key_at bytes)) ≡ header.key
  pub sequence_number : if_set (flag_at 4 bytes) (word_at bytes (sequence_at bytes))
      ≡ header.sequence_number

-- Why the front of a slice is no header: it is shorter than any; or else it is discarded; or else
-- it is shorter than its flags say.
abbrev pub RefusesAs : List ℕ → GreCause → Type 0
RefusesAs s (cause.TooShort required_len len) = (len ≡ length s) × (len < required_len)
    × ((required_len ≡ 4) ⊎ (4 ≤ len) × (¬ IsUnsupported s) × (required_len ≡ gre_len_of s))
RefusesAs s (cause.Unsupported word) =
    (4 ≤ length s) × IsUnsupported s × (word ≡ from_be_bytes w16 (slice_range s 0 2))

-- the error of a header that starts this many bytes further on
abbrev pub gre_error_moved : ℕ → GreError → GreError
gre_error_moved offset e = record e { offset = e.offset + offset }

-- why the front of a slice is no header, with its place
pub record RefusesGre (s : List ℕ) (e : GreError) : Type 0 where
  pub why : RefusesAs s e.cause
  pub at_front : e.offset ≡ 0

abbrev pub GreReading : Type 0
GreReading = Result (GreHeader × List ℕ) GreError

abbrev pub ReadsGre : List ℕ → GreReading → Type 0
ReadsGre s reading = Reads IsGreLayout RefusesGre s reading

-- a flag: 1 if the field is there
abbrev pub flag_of : Option ℕ → ℕ
flag_of None = 0
flag_of (Some n) = 1

abbrev pub checksum_bytes : Option ℕ → List ℕ
checksum_bytes None = []
checksum_bytes (Some n) = to_be_bytes w16 n ++ 0 ∷ 0 ∷ []

abbrev pub field_bytes : Option ℕ → List ℕ
field_bytes None = []
field_bytes (Some n) = to_be_bytes w32 n

-- the bytes of a header that is written; what a receiver ignores is 0
abbrev pub gre_bytes : GreHeader → List ℕ
gre_bytes h = (128 * flag_of h.checksum + 32 * flag_of h.key + 16 * flag_of h.sequence_number) ∷ 0
    ∷ (to_be_bytes w16 h.protocol_type
    ++ (checksum_bytes h.checksum ++ (field_bytes h.key ++ field_bytes h.sequence_number)))

-- The checksum of a packet: the complement of the ones-complement sum of the words of the header
-- and the payload, with 0 for the checksum itself (RFC 2784 section 2.5, RFC 1071 section 1).
abbrev pub gre_checksum_of : List ℕ → ℕ
gre_checksum_of packet = checksum_of (network_order_word_sum (with_part 4 (0 ∷ 0 ∷ []) packet))
