-- The fragment header of IPv6 (RFC 8200 section 4.5).
use Rattle.std.specs.Prelude.{ℕ, ◌≡◌, ◌==◌, ◌+◌, ◌*◌, ◌/◌, ◌%◌, ◌^◌, ◌||◌, Bool, List}
use Rattle.std.specs.Prelude.{Result, length, not, slice_index, slice_range, slice_set}
use Rattle.std.specs.Int.{from_be_bytes, w16, w32}
use Rattle.etherparse.specs.Bytes.{IsBytes}
use Rattle.etherparse.specs.Reading.{IsTooShort, Views}
use Rattle.etherparse.specs.declared.err.LenError.{LenError}
use Rattle.etherparse.specs.declared.err.Layer.TheVariants as layer
use Rattle.etherparse_net.specs.declared.ipv6_fragment_header.Ipv6FragmentHeader.{
  Ipv6FragmentHeader,
}

-- the fragment offset of a fragment header: the upper 13 bits of bytes 2 and 3
abbrev pub fragment_offset_of : List ℕ → ℕ
fragment_offset_of header = from_be_bytes w16 (slice_range header 2 4) / 2 ^ 3

-- The 8 bytes of a fragment header, in network byte order: the next header; a reserved byte; the
-- fragment offset in 13 bits, two reserved bits, and the M flag; the identification. What is
-- reserved is not a field, and can have any value.
pub record IsFragmentLayout (header : Ipv6FragmentHeader) (bytes : List ℕ) : Type 0 where
  pub len : length bytes ≡ 8
  pub are_bytes : IsBytes bytes
  pub next_header : slice_index bytes 0 ≡ header.next_header
  pub fragment_offset : fragment_offset_of bytes ≡ header.fragment_offset
  pub more_fragments : (from_be_bytes w16 (slice_range bytes 2 4) % 2 == 1) ≡ header.more_fragments
  pub identification : from_be_bytes w32 (slice_range bytes 4 8) ≡ header.identification

-- why the front of a slice is no fragment header: it is shorter than one
abbrev pub RefusesFragment : List ℕ → LenError → Type 0
RefusesFragment s e = IsTooShort layer.Ipv6FragHeader 8 s e

-- the payload is a fragment: more fragments follow it, or its offset is not 0
abbrev pub is_part : Ipv6FragmentHeader → Bool
is_part header = header.more_fragments || not (header.fragment_offset == 0)

-- The bytes have the layout of the header, and all that is reserved is 0: byte 1, and the second
-- and third lowest bits of byte 3.
pub record IsClearedFragmentLayout (header : Ipv6FragmentHeader) (bytes : List ℕ) : Type 0 where
  pub layout : IsFragmentLayout header bytes
  pub reserved_byte : slice_index bytes 1 ≡ 0
  pub reserved_bits : slice_index bytes 3 / 2 % 2 ^ 2 ≡ 0

-- the same bytes with all that is reserved 0
abbrev pub with_fragment_reserved_cleared : List ℕ → List ℕ
with_fragment_reserved_cleared bytes =
    slice_set (slice_set bytes 1 0) 3
    (slice_index bytes 3 / 2 ^ 3 * 2 ^ 3 + slice_index bytes 3 % 2)

-- viewing: this front of the slice is a fragment header; or the slice is too short
abbrev pub ViewsFragment : List ℕ → Result (List ℕ) LenError → Type 0
ViewsFragment s front = Views IsFragmentLayout RefusesFragment s front
