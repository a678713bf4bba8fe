-- The layout that most extension headers of IPv6 have (RFC 8200 sections 4.3, 4.4 and 4.6).
use Rattle.std.specs.Prelude.{ℕ, ◌≡◌, ◌+◌, ◌*◌, ◌≤◌, ◌⊎◌, List, drop, length, slice_index}
use Rattle.std.specs.Prelude.{Result, Ok, Err}
use Rattle.etherparse.specs.Bytes.{IsBytes}
use Rattle.etherparse.specs.Reading.{IsTooShort, Reads, Views}
use Rattle.etherparse.specs.declared.err.LenError.{LenError}
use Rattle.etherparse.specs.declared.err.Layer.TheVariants as layer
use Rattle.etherparse_net.specs.Ipv6ExtPayload.{IsExtPayloadLen, RefusesExtPayload}
use Rattle.etherparse_net.specs.declared.err.ext_payload_len_error.ExtPayloadLenError.{
  ExtPayloadLenError,
}
use Rattle.etherparse_net.specs.declared.ipv6_raw_ext_header.Ipv6RawExtHeader.{Ipv6RawExtHeader}

-- The bytes of a header: the next header; the header extension length, which counts units of 8
-- bytes, not including the first 8; and the rest.
pub record IsRawExtLayout (header : Ipv6RawExtHeader) (bytes : List ℕ) : Type 0 where
  pub len : length bytes ≡ 8 * (slice_index bytes 1 + 1)
  pub are_bytes : IsBytes bytes
  pub next_header : slice_index bytes 0 ≡ header.next_header
  pub payload : drop 2 bytes ≡ header.payload

-- Why the front of a slice is no header: it is shorter than the shortest; or else it is shorter
-- than its second byte says.
abbrev pub RefusesRawExt : List ℕ → LenError → Type 0
RefusesRawExt s e = IsTooShort layer.Ipv6ExtHeader 8 s e
    ⊎ ((8 ≤ length s) × IsTooShort layer.Ipv6ExtHeader (8 * (slice_index s 1 + 1)) s e)

-- a header and the bytes after it, or why there is no header
abbrev pub RawExtReading : Type 0
RawExtReading = Result (Ipv6RawExtHeader × List ℕ) LenError

abbrev pub ReadsRawExt : List ℕ → RawExtReading → Type 0
ReadsRawExt s reading = Reads IsRawExtLayout RefusesRawExt s reading

abbrev pub ViewsRawExt : List ℕ → Result (List ℕ) LenError → Type 0
ViewsRawExt s front = Views IsRawExtLayout RefusesRawExt s front

-- the header of a number and the bytes after the first two, if there can be so many
abbrev pub MakesRawExt : ℕ → List ℕ → Result Ipv6RawExtHeader ExtPayloadLenError → Type 0
MakesRawExt next_header payload (Ok header) = IsExtPayloadLen (length payload)
    × (header ≡ record { next_header = next_header; payload = payload })
MakesRawExt next_header payload (Err e) = RefusesExtPayload (length payload) e
