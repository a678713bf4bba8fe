-- The errors of IPv6 headers: their texts, and a header's error further on in a packet.
use Rattle.std.specs.Prelude.{ℕ, ◌+◌, List, ◌++◌, codes}
use Rattle.std.specs.Fmt.{decimal}
use Rattle.etherparse_base.specs.declared.err.ipv6.chain_error.ChainError.{ChainError}
use Rattle.etherparse_base.specs.declared.err.ipv6.chain_error.ChainError.TheVariants as chain
use Rattle.etherparse_base.specs.declared.err.ipv6.header_error.HeaderError.{HeaderError}
use Rattle.etherparse_base.specs.declared.err.ipv6.header_error.HeaderError.TheVariants as header
use Rattle.etherparse_base.specs.declared.err.ipv6.header_slice_error.HeaderSliceError as error
use Rattle.etherparse_base.specs.declared.err.ipv6.header_slice_error.HeaderSliceError.TheVariants
    as slice
use Rattle.etherparse_base.specs.LenError.{len_error_moved, len_error_text}

-- the text of a header's error
abbrev pub ipv6_header_error_text : HeaderError → List ℕ
ipv6_header_error_text (header.UnexpectedVersion version_number) =
    codes "IPv6 Header Error: Encountered '" ++ decimal version_number
    ++ codes "' as IP version number in the IPv6 header (must be '6' in an IPv6 header)."

-- a `HeaderSliceError` has the text of the error that it holds
abbrev pub ipv6_header_slice_error_text : error.HeaderSliceError → List ℕ
ipv6_header_slice_error_text (slice.Len e) = len_error_text e
ipv6_header_slice_error_text (slice.Content e) = ipv6_header_error_text e

-- where the error of a length says that its layer starts; an error of content has no place
abbrev pub ipv6_error_place : error.HeaderSliceError → ℕ
ipv6_error_place (slice.Len e) = e.layer_start_offset
ipv6_error_place (slice.Content e) = 0

-- the error of a header that starts this many bytes further on
abbrev pub ipv6_error_moved : ℕ → error.HeaderSliceError → error.HeaderSliceError
ipv6_error_moved offset (slice.Len e) = slice.Len (len_error_moved offset e)
ipv6_error_moved offset (slice.Content e) = slice.Content e

-- the text for a chain of extension headers: that of a length, or the limit and the next header
abbrev pub chain_error_text : ChainError → List ℕ
chain_error_text (chain.Len e) = len_error_text e
chain_error_text (chain.TooMany limit next_header layer_start_offset) =
    codes "IPv6 Extension Header Error: More than " ++ decimal limit
    ++ (codes " extension header(s) ('" ++ decimal next_header
    ++ (codes "' starts at overall parsed byte " ++ decimal layer_start_offset ++ codes ")."))

-- where the header that is incomplete or one too many starts
abbrev pub chain_error_place : ChainError → ℕ
chain_error_place (chain.Len e) = e.layer_start_offset
chain_error_place (chain.TooMany limit next_header layer_start_offset) = layer_start_offset

-- the error of a chain that follows this many headers and bytes, as the error of the whole chain
abbrev pub chain_error_moved : ℕ → ℕ → ChainError → ChainError
chain_error_moved headers offset (chain.Len e) = chain.Len (len_error_moved offset e)
chain_error_moved headers offset (chain.TooMany limit next_header layer_start_offset) =
    chain.TooMany (headers + limit) next_header (layer_start_offset + offset)
