-- The errors of extension headers: their texts, and what of them is hashed.
use Rattle.std.specs.Prelude.{ℕ, List, ◌++◌, codes}
use Rattle.std.specs.Hash as fed
use Rattle.std.specs.Fmt.{decimal}
use Rattle.etherparse.specs.LenError.{len_error_text}
use Rattle.etherparse_net.specs.declared.err.ext_payload_len_error.ExtPayloadLenError as payload
use Rattle.etherparse_net.specs.declared.err.icv_len_error.IcvLenError as icv
use Rattle.etherparse_net.specs.declared.err.ip_auth.header_error.HeaderError as content
use Rattle.etherparse_net.specs.declared.err.ip_auth.header_slice_error.HeaderSliceError as slice

-- the text of bytes that are no authentication header
abbrev pub header_error_text : content.HeaderError → List ℕ
header_error_text content.TheVariants.ZeroPayloadLen =
    codes "IP Authentication Header Error: The payload length is '0'"
    ++ codes " (minimum allowed value is '1')."

-- a `HeaderSliceError` has the text of the error that it holds
abbrev pub header_slice_error_text : slice.HeaderSliceError → List ℕ
header_slice_error_text (slice.TheVariants.Len e) = len_error_text e
header_slice_error_text (slice.TheVariants.Content e) = header_error_text e

-- the text of a length that an integrity check value cannot have
abbrev pub icv_len_error_text : icv.IcvLenError → List ℕ
icv_len_error_text (icv.TheVariants.TooBig len) =
    codes "IP Authentication Header Error: The integrity check value has '" ++ (decimal len
    ++ codes "' byte(s) (maximum allowed value is '1016').")
icv_len_error_text (icv.TheVariants.Unaligned len) =
    codes "IP Authentication Header Error: The integrity check value has '" ++ (decimal len
    ++ codes "' byte(s), which is not a multiple of '4'.")

-- the text of a length that the payload of an extension header cannot have
abbrev pub ext_payload_len_error_text : payload.ExtPayloadLenError → List ℕ
ext_payload_len_error_text (payload.TheVariants.TooSmall len) =
    codes "IPv6 Extension Header Error: The payload has '" ++ (decimal len
    ++ codes "' byte(s) (minimum allowed value is '6').")
ext_payload_len_error_text (payload.TheVariants.TooBig len) =
    codes "IPv6 Extension Header Error: The payload has '" ++ (decimal len
    ++ codes "' byte(s) (maximum allowed value is '2046').")
ext_payload_len_error_text (payload.TheVariants.Unaligned len) =
    codes "IPv6 Extension Header Error: The payload has '" ++ (decimal len
    ++ codes "' byte(s), which is not '6' more than a multiple of '8'.")

-- A length is hashed after the number of what is wrong with it.
abbrev pub icv_len_error_writes : icv.IcvLenError → List (List ℕ)
icv_len_error_writes (icv.TheVariants.TooBig len) = fed.usize 0 ++ fed.usize len
icv_len_error_writes (icv.TheVariants.Unaligned len) = fed.usize 1 ++ fed.usize len

abbrev pub ext_payload_len_error_writes : payload.ExtPayloadLenError → List (List ℕ)
ext_payload_len_error_writes (payload.TheVariants.TooSmall len) = fed.usize 0 ++ fed.usize len
ext_payload_len_error_writes (payload.TheVariants.TooBig len) = fed.usize 1 ++ fed.usize len
ext_payload_len_error_writes (payload.TheVariants.Unaligned len) = fed.usize 2 ++ fed.usize len
