-- The errors of IPv4 headers and their options: their texts, and a header's error further on in a
-- packet.
use Rattle.std.specs.Prelude.{ℕ, List, ◌++◌, codes}
use Rattle.std.specs.Fmt.{decimal}
use Rattle.etherparse_base.specs.declared.err.ipv4.bad_options_len.BadOptionsLen.{BadOptionsLen}
use Rattle.etherparse_base.specs.declared.err.ipv4.header_error.HeaderError.{HeaderError}
use Rattle.etherparse_base.specs.declared.err.ipv4.header_error.HeaderError.TheVariants as header
use Rattle.etherparse_base.specs.declared.err.ipv4.header_slice_error.HeaderSliceError as error
use Rattle.etherparse_base.specs.declared.err.ipv4.header_slice_error.HeaderSliceError.TheVariants
    as slice
use Rattle.etherparse_base.specs.LenError.{len_error_moved, len_error_text}

-- the text for a length that options cannot have
abbrev pub bad_options_len_text : BadOptionsLen → List ℕ
bad_options_len_text e =
    codes "Slice of length " ++ decimal e.bad_len
    ++ (codes " cannot be set as IPv4 header options."
    ++ codes " The length must be a multiple of 4 and at maximum 40.")

-- the text of a header's error
abbrev pub ipv4_header_error_text : HeaderError → List ℕ
ipv4_header_error_text (header.UnexpectedVersion version_number) =
    codes "IPv4 Header Error: Encountered '" ++ decimal version_number
    ++ codes "' as IP version number in the IPv4 header (must be '4' in an IPv4 header)."
ipv4_header_error_text (header.HeaderLengthSmallerThanHeader ihl) =
    codes "IPv4 Header Error: The 'internet header length' value '" ++ decimal ihl
    ++ (codes "' present in the IPv4 header is smaller than the minimum size of an IPv4 header."
    ++ codes " The minimum allowed value is '5'.")

-- a `HeaderSliceError` has the text of the error that it holds
abbrev pub ipv4_header_slice_error_text : error.HeaderSliceError → List ℕ
ipv4_header_slice_error_text (slice.Len e) = len_error_text e
ipv4_header_slice_error_text (slice.Content e) = ipv4_header_error_text e

-- where the error of a length says that its layer starts; an error of content has no place
abbrev pub ipv4_error_place : error.HeaderSliceError → ℕ
ipv4_error_place (slice.Len e) = e.layer_start_offset
ipv4_error_place (slice.Content e) = 0

-- the error of a header that starts this many bytes further on
abbrev pub ipv4_error_moved : ℕ → error.HeaderSliceError → error.HeaderSliceError
ipv4_error_moved offset (slice.Len e) = slice.Len (len_error_moved offset e)
ipv4_error_moved offset (slice.Content e) = slice.Content e
