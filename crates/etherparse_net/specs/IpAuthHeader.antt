-- The authentication header of IP (RFC 4302 section 2).
use Rattle.std.specs.Prelude.{ℕ, ◌≡◌, ◌≢◌, ◌+◌, ◌*◌, ◌≤◌, ◌⊎◌, List, drop, length}
use Rattle.std.specs.Prelude.{slice_index, slice_range, slice_set, Result, Ok, Err}
use Rattle.std.specs.Int.{from_be_bytes, w16, w32}
use Rattle.etherparse.specs.Bytes.{IsBytes}
use Rattle.etherparse.specs.Reading.{IsTooShort, Reads, Views}
use Rattle.etherparse.specs.declared.err.Layer.TheVariants as layer
use Rattle.etherparse_net.specs.IpAuthIcv.{IsIcvLen, RefusesIcv}
use Rattle.etherparse_net.specs.declared.err.icv_len_error.IcvLenError.{IcvLenError}
use Rattle.etherparse_net.specs.declared.err.ip_auth.header_error.HeaderError.TheVariants as content
use Rattle.etherparse_net.specs.declared.err.ip_auth.header_slice_error.HeaderSliceError as error
use Rattle.etherparse_net.specs.declared.err.ip_auth.header_slice_error.HeaderSliceError.TheVariants
    as slice
use Rattle.etherparse_net.specs.declared.ip_auth_header.IpAuthHeader.{IpAuthHeader}

-- the length of a header in bytes, as its payload length says: in words of 4, less two of them
abbrev pub auth_len_of : List ℕ → ℕ
auth_len_of bytes = 4 * (slice_index bytes 1 + 2)

-- The bytes of a header, in network byte order: the next header; the payload length, which is at
-- least 1, since the fields before the integrity check value are 3 words; two reserved bytes, which
-- can have any value; the security parameters index; the sequence number; and the integrity check
-- value.
pub record IsAuthLayout (header : IpAuthHeader) (bytes : List ℕ) : Type 0 where
  pub len : length bytes ≡ auth_len_of bytes
  pub payload_len : slice_index bytes 1 ≢ 0
  pub are_bytes : IsBytes bytes
  pub next_header : slice_index bytes 0 ≡ header.next_header
  pub spi : from_be_bytes w32 (slice_range bytes 4 8) ≡ header.spi
  pub sequence_number : from_be_bytes w32 (slice_range bytes 8 12) ≡ header.sequence_number
  pub icv : drop 12 bytes ≡ header.icv

-- the bytes have the layout of the header, and the two reserved bytes are 0
pub record IsClearedAuthLayout (header : IpAuthHeader) (bytes : List ℕ) : Type 0 where
  pub layout : IsAuthLayout header bytes
  pub reserved : from_be_bytes w16 (slice_range bytes 2 4) ≡ 0

-- the same bytes with the two reserved ones 0
abbrev pub with_auth_reserved_cleared : List ℕ → List ℕ
with_auth_reserved_cleared bytes = slice_set (slice_set bytes 2 0) 3 0

-- Why the front of a slice is no header: it is shorter than the shortest; or else its payload
-- length is 0, which leaves no room for the fields; or else it is shorter than that length says.
abbrev pub RefusesAuth : List ℕ → error.HeaderSliceError → Type 0
RefusesAuth s (slice.Len e) = IsTooShort layer.IpAuthHeader 12 s e
    ⊎ ((12 ≤ length s) × (slice_index s 1 ≢ 0) × IsTooShort layer.IpAuthHeader (auth_len_of s) s e)
RefusesAuth s (slice.Content content.ZeroPayloadLen) = (12 ≤ length s) × (slice_index s 1 ≡ 0)

-- a header and the bytes after it, or why there is no header
abbrev pub AuthReading : Type 0
AuthReading = Result (IpAuthHeader × List ℕ) error.HeaderSliceError

abbrev pub ReadsAuth : List ℕ → AuthReading → Type 0
ReadsAuth s reading = Reads IsAuthLayout RefusesAuth s reading

abbrev pub ViewsAuth : List ℕ → Result (List ℕ) error.HeaderSliceError → Type 0
ViewsAuth s front = Views IsAuthLayout RefusesAuth s front

-- the header with these fields, if its integrity check value can have so many bytes
abbrev pub MakesAuth : ℕ → ℕ → ℕ → List ℕ → Result IpAuthHeader IcvLenError → Type 0
MakesAuth next_header spi sequence_number icv (Ok header) = IsIcvLen (length icv)
    × (header ≡ record {
      next_header = next_header;
      spi = spi;
      sequence_number = sequence_number;
      icv = icv;
    })
MakesAuth next_header spi sequence_number icv (Err e) = RefusesIcv (length icv) e
