-- The first byte of an IP header of either version (RFC 791 section 3.1, RFC 8200 section 3).
use Rattle.std.specs.Prelude.{ℕ, ◌/◌, ◌%◌, List, slice_index}

-- the version field: the upper half of the byte
abbrev pub version_of : List ℕ → ℕ
version_of s = slice_index s 0 / 16

-- the IHL field of an IPv4 header, its length in words of four bytes: the lower half of the byte
abbrev pub ihl_of : List ℕ → ℕ
ihl_of s = slice_index s 0 % 16
