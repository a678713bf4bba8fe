-- The text of an error, as C gets it.
use Rattle.std.specs.Prelude.{ℕ, ◌≡◌, ◌≢◌, ◌<◌, ◌++◌, ◌⊎◌, List, [], codes, decimal}
use Rattle.c_answers.specs.Error.{layer_in_c, len_error_in_c, source_in_c, value_in_c}
use Rattle.c_answers.specs.Text.{GivesText}
use Rattle.c_answers.specs.declared.error.Error.{Error}
use Rattle.etherparse.specs.Ipv4Errors.{bad_options_len_text, ipv4_header_error_text}
use Rattle.etherparse.specs.Ipv6Errors.{chain_error_text, ipv6_header_error_text}
use Rattle.etherparse.specs.LenError.{len_error_text}
use Rattle.etherparse.specs.ValueTooBigError.{value_too_big_error_text}
use Rattle.etherparse.specs.declared.LenSource.TheVariants as source
use Rattle.etherparse.specs.declared.err.Layer.TheVariants as layer
use Rattle.etherparse.specs.declared.err.LenError.{LenError}
use Rattle.etherparse.specs.declared.err.ValueType.{ValueType}
use Rattle.etherparse.specs.declared.err.ipv4.HeaderError.TheVariants as ipv4
use Rattle.etherparse.specs.declared.err.ipv6.ChainError.TheVariants as chain
use Rattle.etherparse.specs.declared.err.ipv6.HeaderError.TheVariants as ipv6
use Rattle.etherparse_transport.specs.Tcp.{tcp_error_text}
use Rattle.etherparse_transport.specs.declared.tcp.TcpError.TheVariants as tcp
use Rattle.packet.specs.Link.{link_error_text}
use Rattle.packet_parts.specs.IpSlice.{ip_slice_error_text}
use Rattle.packet_parts.specs.declared.ip_slice.IpSliceError.TheVariants as ip

-- the length is too small, and its layer and its source have numbers
pub record HasNumbers (e : LenError) : Type 0 where
  pub short : e.len < e.required_len
  pub layer : 0 < layer_in_c e.layer
  pub source : source_in_c e.len_source < 3

-- an IPv4 packet has fewer bytes than its total length says: its length is that of the slice
pub record IsShortIpv4Packet (e : LenError) : Type 0 where
  pub short : e.len < e.required_len
  pub layer : e.layer ≡ layer.Ipv4Packet
  pub source : e.len_source ≡ source.Slice

-- the text of a link type that is not read
abbrev pub link_type_error_text : ℕ → List ℕ
link_type_error_text number =
    codes "Link Type Error: Frames of link type " ++ (decimal number ++ codes " are not read.")

-- No length that is too small has these numbers. There is no such layer; or no such source, which a
-- link header does not need; or the layer is that of an IPv4 packet that the slice ends within, and
-- the source is another one.
abbrev pub IsNoLength : Error → Type 0
IsNoLength error =
    (error.layer ≡ 0) ⊎ (13 < error.layer) ⊎ ((error.layer ≢ 5) × (2 < error.number))
    ⊎ ((error.layer ≡ 8) × (error.number ≢ 0))

-- The numbers are of no error: the kind, the layer, the source or the value is none that an error
-- has, or the length is not too small.
pub record IsNoError (error : Error) : Type 0 where
  pub len : error.kind ≡ 1 → error.len < error.required_len → IsNoLength error
  pub version : error.kind ≡ 2 → (error.layer ≢ 1) × (error.layer ≢ 3) × (error.layer ≢ 7)
  pub ihl : error.kind ≢ 3
  pub too_many : error.kind ≢ 4
  pub value : error.kind ≡ 5 → (error.number ≡ 0) ⊎ (6 < error.number)
  pub options : error.kind ≢ 6
  pub data_offset : error.kind ≢ 7
  pub link_type : error.kind ≢ 8

-- A buffer gets the text of the error with these numbers, as the library prints it; of no error it
-- gets the empty text.
pub record GivesErrorText (error : Error) (before after : List ℕ) (count : ℕ) : Type 0 where
  pub len : (e : LenError) → HasNumbers e
      → record error { limit = 0 } ≡ len_error_in_c e
      → GivesText (len_error_text e) before after count
  pub ipv4_version : error.kind ≡ 2 → error.layer ≡ 1
      → GivesText (ipv4_header_error_text (ipv4.UnexpectedVersion error.number)) before after count
  pub ipv6_version : error.kind ≡ 2 → error.layer ≡ 3
      → GivesText (ipv6_header_error_text (ipv6.UnexpectedVersion error.number)) before after count
  pub ip_version : error.kind ≡ 2 → error.layer ≡ 7
      → GivesText (ip_slice_error_text (ip.UnexpectedVersion error.number)) before after count
  pub ihl : error.kind ≡ 3
      → GivesText (ipv4_header_error_text (ipv4.HeaderLengthSmallerThanHeader error.number))
      before after count
  pub too_many : error.kind ≡ 4
      → GivesText (chain_error_text
      (chain.TooMany error.limit error.number error.layer_start_offset)) before after count
  pub value : (v : ValueType) → error.kind ≡ 5 → error.number ≡ value_in_c v → 0 < value_in_c v
      → GivesText (value_too_big_error_text (record {
        actual = error.len;
        max_allowed = error.limit;
        value_type = v;
      })) before after count
  pub options : error.kind ≡ 6
      → GivesText (bad_options_len_text (record { bad_len = error.len })) before after count
  pub ipv4_packet : (e : LenError) → IsShortIpv4Packet e
      → record error { limit = 0 } ≡ record (len_error_in_c e) { layer = 8 }
      → GivesText (len_error_text e) before after count
  pub link : error.kind ≡ 1 → error.layer ≡ 5 → error.len < error.required_len
      → GivesText (link_error_text (record {
        required_len = error.required_len;
        len = error.len;
      })) before after count
  pub data_offset : error.kind ≡ 7
      → GivesText (tcp_error_text (tcp.DataOffset error.number)) before after count
  pub link_type : error.kind ≡ 8
      → GivesText (link_type_error_text error.len) before after count
  pub none : IsNoError error → GivesText [] before after count
