-- The errors of two VLAN tags: their texts, and what of one is hashed.
use Rattle.std.specs.Prelude.{ℕ, List, ◌++◌, codes}
use Rattle.std.specs.Hash as fed
use Rattle.std.specs.Fmt.{decimal}
use Rattle.etherparse.specs.LenError.{len_error_text}
use Rattle.etherparse_link.specs.declared.err.double_vlan.HeaderError.{HeaderError}
use Rattle.etherparse_link.specs.declared.err.double_vlan.HeaderError.TheVariants as content
use Rattle.etherparse_link.specs.declared.err.double_vlan.HeaderSliceError as error
use Rattle.etherparse_link.specs.declared.err.double_vlan.HeaderSliceError.TheVariants as slice

-- the text of an error of content
abbrev pub header_error_text : HeaderError → List ℕ
header_error_text (content.NonVlanEtherType ether_type) =
    codes "Double VLAN Error: The outer tag has the ether type '" ++ (decimal ether_type
    ++ codes "', which is that of no VLAN tag.")

-- a `HeaderSliceError` has the text of the error that it holds
abbrev pub header_slice_error_text : error.HeaderSliceError → List ℕ
header_slice_error_text (slice.Len e) = len_error_text e
header_slice_error_text (slice.Content e) = header_error_text e

-- an error of content is hashed by what it holds
abbrev pub header_error_writes : HeaderError → List (List ℕ)
header_error_writes (content.NonVlanEtherType ether_type) = fed.u16 ether_type
