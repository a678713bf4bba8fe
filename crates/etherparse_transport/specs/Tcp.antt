-- The TCP header (RFC 9293 section 3.1), seen by its data offset.
use Rattle.std.specs.Prelude.{ℕ, ◌≡◌, ◌*◌, ◌/◌, ◌%◌, ◌^◌, ◌<◌, ◌≤◌, ◌⊎◌, List, ◌++◌, length}
use Rattle.std.specs.Prelude.{Result, Ok, Err, codes, decimal, slice_index, take}
use Rattle.etherparse.specs.LenError.{len_error_text}
use Rattle.etherparse.specs.Reading.{IsTooShort, too_short_error}
use Rattle.etherparse.specs.declared.err.Layer.TheVariants as layer
use Rattle.etherparse.specs.declared.err.LenError.{LenError}
use Rattle.etherparse_transport.specs.declared.tcp.TcpError.{TcpError}
use Rattle.etherparse_transport.specs.declared.tcp.TcpError.TheVariants.{Len, DataOffset}

-- the data offset, the length of the header in words of four bytes: the upper half of byte 12
abbrev pub data_offset_of : List ℕ → ℕ
data_offset_of s = slice_index s 12 / 16

-- one of the flags, all in byte 13, from FIN at 0 to CWR at 7
abbrev pub flag_at : ℕ → List ℕ → ℕ
flag_at place s = slice_index s 13 / 2 ^ place % 2

-- the slice has the 20 bytes of the shortest header, and its data offset is at least 5
pub record HasDataOffset (s : List ℕ) : Type 0 where
  pub enough : 20 ≤ length s
  pub offset : 5 ≤ data_offset_of s

-- the slice begins with this header, options and all, which is as long as its data offset says
pub record HasTcpFront (s front : List ℕ) : Type 0 where
  pub says : HasDataOffset s
  pub enough : 4 * data_offset_of s ≤ length s
  pub cut : front ≡ take (4 * data_offset_of s) s

-- the error of a slice that is shorter than the header needs
abbrev pub tcp_len_error : ℕ → ℕ → LenError
tcp_len_error required_len len = too_short_error layer.TcpHeader required_len len

-- what is seen: the header at the front; or it is refused, since the slice is shorter than any
-- header; or else its data offset is below 5; or else the slice is shorter than the data offset
-- says
abbrev pub ViewsTcp : List ℕ → Result (List ℕ) TcpError → Type 0
ViewsTcp s (Ok front) = HasTcpFront s front
ViewsTcp s (Err (Len e)) = IsTooShort layer.TcpHeader 20 s e
    ⊎ (HasDataOffset s × IsTooShort layer.TcpHeader (4 * data_offset_of s) s e)
ViewsTcp s (Err (DataOffset offset)) =
    (20 ≤ length s) × (data_offset_of s < 5) × (offset ≡ data_offset_of s)

-- the text of such an error
abbrev pub tcp_error_text : TcpError → List ℕ
tcp_error_text (Len e) = len_error_text e
tcp_error_text (DataOffset offset) =
    codes "TCP Header Error: Data offset " ++ (decimal offset ++ codes " is less than 5.")
