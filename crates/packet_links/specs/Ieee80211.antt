-- The MAC header of IEEE 802.11, and radiotap before it.
use Rattle.std.specs.Prelude.{ℕ, ◌+◌, ◌*◌, ◌/◌, ◌%◌, ◌^◌, ◌==◌, ◌&&◌, ◌||◌, Bool, nat_lt}
use Rattle.std.specs.Prelude.{if◌then◌else◌, List, [], ◌∷◌, drop, false, length, not, slice_index}
use Rattle.std.specs.Prelude.{take, true}
use Rattle.std.specs.Int.{from_le_bytes, w16}
use Rattle.packet_links.specs.Bytes.{is_set}
use Rattle.packet_links.specs.Header.{llc_header}
use Rattle.packet_links.specs.declared.header.Carried.TheVariants as carried
use Rattle.packet_links.specs.declared.header.Header.{Header}

-- the place of what follows the addresses of a data frame: there is a fourth address if the frame
-- goes both to and from a distribution system, bits 0 and 1 of byte 1 (section 9.3.2.1)
abbrev pub addresses_end : List ℕ → ℕ
addresses_end mac = if is_set 0 1 mac && is_set 1 1 mac then 30 else 24

-- QoS control follows in a QoS data frame, the upper bit of the subtype (section 9.2.4.1.3), and HT
-- control after it if bit 7 of byte 1 is set (section 9.2.4.1.10)
unfoldable pub controls_end : List ℕ → ℕ
controls_end mac = addresses_end mac
    + (if is_set 7 0 mac then (if is_set 7 1 mac then 6 else 2) else 0)

-- the length of the header of a data frame, in bytes: with padding a multiple of 4
unfoldable pub data_header_len : Bool → List ℕ → ℕ
data_header_len false mac = controls_end mac
data_header_len true mac = (controls_end mac + 3) / 4 * 4

-- a fragment: more of them follow by bit 2 of byte 1 (section 9.2.4.1.5), or it has another number
-- than 0, the lower 4 bits of sequence control (section 9.2.4.4)
unfoldable pub is_fragment : List ℕ → Bool
is_fragment mac = is_set 2 1 mac || not (slice_index mac 22 % 2 ^ 4 == 0)

-- several packets in one: bit 7 of QoS control (section 9.2.4.5.9)
unfoldable pub is_aggregate : List ℕ → Bool
is_aggregate mac = is_set 7 0 mac && is_set 7 (addresses_end mac) mac

-- What follows a header of this length in a frame with data: encrypted data by the flag of
-- protected frames (section 9.2.4.1.9), and else LLC, unless it is a fragment or an aggregate; or
-- unknown, if the frame ends within the header and is not encrypted.
abbrev pub data_after : ℕ → List ℕ → Header
data_after len mac =
    if is_set 6 1 mac then record { len = len; carried = carried.Encrypted }
    else if nat_lt (length mac) len then record { len = len; carried = carried.Unknown }
    else if is_fragment mac then record { len = len; carried = carried.Fragment }
    else if is_aggregate mac then record { len = len; carried = carried.Aggregate }
    else llc_header len mac

-- A data frame: it has no data by bit 2 of the subtype (section 9.2.4.1.3), and then no padding.
abbrev pub data_header : Bool → List ℕ → Header
data_header is_padded mac =
    if is_set 6 0 mac then record { len = controls_end mac; carried = carried.NoData }
    else data_after (data_header_len is_padded mac) mac

-- LINKTYPE_IEEE802_11: frame control has the version 0 in its bits 0 and 1 and the type in bits 2
-- and 3 (section 9.2.4.1.3). Of a frame of another type nothing after it is read.
abbrev pub ieee80211_header : Bool → List ℕ → Header
ieee80211_header is_padded mac =
    let version = slice_index mac 0 % 2 ^ 2 in
    let type = slice_index mac 0 / 2 ^ 2 % 2 ^ 2 in
    if not (version == 0) then record { len = 2; carried = carried.Unknown }
    else if type == 0 then record { len = 2; carried = carried.Management }
    else if type == 1 then record { len = 2; carried = carried.Control }
    else if type == 3 then record { len = 2; carried = carried.Extension }
    else data_header is_padded mac

-- the length of radiotap, in bytes: its bytes 2 and 3, the low byte first (radiotap.org)
abbrev pub radiotap_len : List ℕ → ℕ
radiotap_len frame = from_le_bytes w16 (slice_index frame 2 ∷ slice_index frame 3 ∷ [])

-- the length of the words that say which fields there are: after one with bit 31 set comes another
abbrev pub present_len : List ℕ → ℕ
present_len (a ∷ b ∷ c ∷ d ∷ rest) = if is_set 7 0 (d ∷ []) then 4 + present_len rest else 4
present_len incomplete = 0

-- The place of the field Flags. It is the first after these words, or after TSFT if there is that,
-- 8 bytes at a multiple of 8.
abbrev pub flags_place : List ℕ → ℕ
flags_place radiotap =
    let place = 4 + present_len (drop 4 radiotap) in
    if is_set 0 4 radiotap then (place + 7) / 8 * 8 + 8 else place

-- there is padding between the MAC header and what follows it: bit 5 of Flags
abbrev pub has_padding : List ℕ → Bool
has_padding radiotap = is_set 1 4 radiotap && is_set 5 (flags_place radiotap) radiotap

-- radiotap of this length, and the MAC header after it
abbrev pub after_radiotap : ℕ → List ℕ → Header
after_radiotap place frame =
    let mac = ieee80211_header (has_padding (take place frame)) (drop place frame) in
    record { len = place + mac.len; carried = mac.carried }

-- LINKTYPE_IEEE802_11_RADIOTAP: radiotap, which has 8 bytes at least, and the MAC header
abbrev pub radiotap_header : List ℕ → Header
radiotap_header frame =
    if nat_lt (length frame) 8 || nat_lt (radiotap_len frame) 8
    then record { len = 8; carried = carried.Unknown }
    else if nat_lt (length frame) (radiotap_len frame)
    then record { len = radiotap_len frame; carried = carried.Unknown }
    else after_radiotap (radiotap_len frame) frame
