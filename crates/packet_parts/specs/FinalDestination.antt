-- The final destination of a packet, which its checksums cover. A source route of IPv4 and a
-- routing header of IPv6 send a packet over several stops. On the way, the destination of the
-- header is the next stop.
use Rattle.std.specs.Prelude.{ℕ, ◌≡◌, ◌+◌, ◌-◌, ◌*◌, ◌/◌, ◌%◌, ◌==◌, ◌&&◌, ◌||◌, not}
use Rattle.std.specs.Prelude.{Bool, List, ◌++◌, drop, find, length, slice_index, slice_range, take}
use Rattle.std.specs.Prelude.{Option, Result, Some, None, if◌then◌else◌, nat_le}
use Rattle.etherparse_net.specs.Ipv4Options.{IsOnlyIpv4Listing}
use Rattle.etherparse_net.specs.declared.err.ipv4_option_error.Ipv4OptionError.{Ipv4OptionError}
use Rattle.packet_parts.specs.CoveredAddresses.{FollowsIpv6}

-- ---- IPv4

-- an option of IPv4 is a source route (RFC 791 section 3.1), a loose (131) or a strict one (137)
abbrev pub is_source_route : List ℕ → Bool
is_source_route option = (slice_index option 0 == 131) || (slice_index option 0 == 137)

-- After the type and the length of a source route, byte 2 is a pointer, and then come addresses.
-- The pointer is the place of the next one to be visited, counted from 1: 4, 8 and so on.
abbrev pub pointer : List ℕ → ℕ
pointer route = slice_index route 2

-- Addresses are left: the pointer is the place of one of them. Otherwise all are visited, or the
-- pointer or the length does not fit, and no node has to follow this route.
abbrev pub has_addresses_left : List ℕ → Bool
has_addresses_left route = (length route % 4 == 3) && ((pointer route % 4 == 0)
    && (nat_le 4 (pointer route) && nat_le (pointer route) (length route)))

-- The first source route in the bytes of the options, as far as these are whole, or none. A packet
-- should have one at most (RFC 1812 section 5.2.4.1).
pub record HasFirstRoute (bytes : List ℕ) (route : Option (List ℕ)) : Type 0 where
  pub options : List (List ℕ)
  pub end : Result (List ℕ) Ipv4OptionError
  pub lists : IsOnlyIpv4Listing bytes options end
  pub first : route ≡ find is_source_route options

-- the destination after the first source route, if there is one: its last address, if any are left
abbrev pub after_route : List ℕ → Option (List ℕ) → List ℕ
after_route destination (Some route) = if has_addresses_left route
    then slice_range route (length route - 4) (length route) else destination
after_route destination None = destination

-- the final destination of a packet of IPv4, from the destination of its header and the bytes of
-- its options
pub record GoesToIpv4 (destination bytes final : List ℕ) : Type 0 where
  pub route : Option (List ℕ)
  pub has_route : HasFirstRoute bytes route
  pub is_final : final ≡ after_route destination route

-- ---- IPv6

-- how many addresses of a routing header are still to be visited: byte 3 (RFC 8200 section 4.4)
abbrev pub segments_left : List ℕ → ℕ
segments_left header = slice_index header 3

-- type 0: after 8 bytes come addresses, which fill the header and are visited in this order (RFC
-- 2460 section 4.4)
abbrev pub last_in_list : List ℕ → Option (List ℕ)
last_in_list header =
    if length header % 16 == 8 && nat_le (segments_left header) (length header / 16)
    then Some (slice_range header (length header - 16) (length header)) else None

-- type 2: after 8 bytes comes one address (RFC 6275 section 6.4)
abbrev pub only_address : List ℕ → Option (List ℕ)
only_address header = if length header == 24 && segments_left header == 1
    then Some (drop 8 header) else None

-- Type 3: each address lacks its first bytes, which are those of the destination (RFC 6554 section
-- 3). The last one lacks as many as CmprE says, the lower half of byte 4, and each other one as
-- many as CmprI, the upper half. Pad, the upper half of byte 5, says how many bytes follow.
abbrev pub cmpr_i : List ℕ → ℕ
cmpr_i header = slice_index header 4 / 16

abbrev pub cmpr_e : List ℕ → ℕ
cmpr_e header = slice_index header 4 % 16

abbrev pub pad : List ℕ → ℕ
pad header = slice_index header 5 / 16

-- how many bytes the other addresses have together, which follow the first 8
abbrev pub others_len : List ℕ → ℕ
others_len header = length header - (24 - cmpr_e header + pad header)

abbrev pub last_compressed : List ℕ → List ℕ → Option (List ℕ)
last_compressed destination header =
    if nat_le (24 - cmpr_e header + pad header) (length header)
    && (others_len header % (16 - cmpr_i header) == 0
    && nat_le (segments_left header) (others_len header / (16 - cmpr_i header) + 1))
    then Some (take (cmpr_e header) destination ++ slice_range header
    (8 + others_len header) (24 - cmpr_e header + others_len header))
    else None

-- type 4: after 8 bytes come addresses, which are visited from the last to the first; byte 4 is the
-- index of the last (RFC 8754 section 2)
abbrev pub first_in_list : List ℕ → Option (List ℕ)
first_in_list header = if nat_le (16 * slice_index header 4 + 24) (length header)
    && nat_le (segments_left header) (slice_index header 4 + 1)
    then Some (slice_range header 8 24) else None

-- The address that a routing header visits last, by its type in byte 2. There is none if the type
-- is another one, or if its numbers do not fit its length.
abbrev pub last_address : List ℕ → List ℕ → Option (List ℕ)
last_address destination header =
    if slice_index header 2 == 0 then last_in_list header
    else (if slice_index header 2 == 2 then only_address header
    else (if slice_index header 2 == 3 then last_compressed destination header
    else (if slice_index header 2 == 4 then first_in_list header else None)))

-- The destination after an extension header of a number. A routing header (43) with segments left
-- makes it its last address; any other header leaves it as it is.
abbrev pub destination_after : List ℕ → ℕ → List ℕ → Option (List ℕ)
destination_after destination number header =
    if number == 43 && not (segments_left header == 0) then last_address destination header
    else Some destination

-- what an extension header of a number leaves as the destination
abbrev pub LeavesDestination : List ℕ → ℕ → List ℕ → Option (List ℕ) → Type 0
LeavesDestination destination number header next =
    next ≡ destination_after destination number header

-- The final destination of an IPv6 packet (RFC 8200 section 8.1), from the destination of its
-- header, the number of its first extension header and the bytes of all of them. A routing header
-- with segments left and no last address makes it unknown; `FollowsIpv6` says what else does. The
-- compressed segments of RFC 9800 are not looked into.
abbrev pub GoesToIpv6 : List ℕ → ℕ → List ℕ → Option (List ℕ) → Type 0
GoesToIpv6 destination first extensions final =
    FollowsIpv6 LeavesDestination destination first extensions final
