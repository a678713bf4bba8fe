-- The header of frame relay (ITU-T Q.922, RFC 2427).
use Rattle.std.specs.Prelude.{ℕ, ◌+◌, ◌-◌, ◌/◌, ◌^◌, ◌==◌, ◌&&◌, ◌||◌, Bool, nat_lt, not}
use Rattle.std.specs.Prelude.{if◌then◌else◌, List, length, slice_index}
use Rattle.packet_links.specs.Bytes.{has, is_set, number_at}
use Rattle.packet_links.specs.Header.{snap_header}
use Rattle.packet_links.specs.Ppp.{protocol_header}
use Rattle.packet_links.specs.declared.header.Carried.TheVariants as carried
use Rattle.packet_links.specs.declared.header.Header.{Header}

-- the NLPID at a place; after 80 comes SNAP (RFC 2427 section 4), after cf the protocol of PPP
-- (RFC 1973 section 3)
abbrev pub nlpid_header : ℕ → List ℕ → Header
nlpid_header place frame = if has 0x80 place frame then snap_header 0 (place + 1) frame
    else if has 0xcf place frame then protocol_header (place + 1) frame
    else record { len = place + 1; carried = carried.Nlpid (slice_index frame place) }

-- the place of the NLPID after the control at a place: a pad of 00 can stand between them (RFC 2427
-- section 3)
abbrev pub nlpid_place : ℕ → List ℕ → ℕ
nlpid_place place frame = if nat_lt (place + 1) (length frame) && has 0x00 (place + 1) frame
    then place + 2 else place + 1

-- the upper 6 bits of the last byte of an address of 3 or 4 bytes, which ends at a place, are 0, or
-- they are no part of the DLCI: its bit 1, D/C, is set (Q.922 section 3.3.7)
abbrev pub ends_with_zero : ℕ → List ℕ → Bool
ends_with_zero place frame =
    is_set 1 (place - 1) frame || slice_index frame (place - 1) / 2 ^ 2 == 0

-- The address that ends at a place has DLCI 0, which is for signalling (Q.922 section 3.3.6): the
-- upper 6 bits of its first byte, the upper 4 of its second, and the upper 7 of the third of 4 are
-- 0, and so are those of a last byte after the second.
abbrev pub is_signalling : ℕ → List ℕ → Bool
is_signalling place frame = slice_index frame 0 / 2 ^ 2 == 0 && slice_index frame 1 / 2 ^ 4 == 0
    && (place == 2 || ends_with_zero place frame)
    && (not (place == 4) || slice_index frame 2 / 2 == 0)

-- After an address that ends at a place: the control 03 and an NLPID. On DLCI 0 any other control
-- is one of Q.922 (section 3.4), and what follows it is unknown; else an EtherType follows, as
-- Cisco's encapsulation has it.
abbrev pub after_address : ℕ → List ℕ → Header
after_address place frame =
    if has 0x03 place frame then nlpid_header (nlpid_place place frame) frame
    else if is_signalling place frame
    then record { len = place + 1; carried = carried.Unknown }
    else record { len = place + 2; carried = carried.EtherType (number_at place frame) }

-- LINKTYPE_FRELAY: an address of 2, 3 or 4 bytes, of which the last alone is odd (Q.922 section
-- 3.2), and what follows it. A frame has 3 bytes at least (Q.922 section 2.9).
abbrev pub frame_relay_header : List ℕ → Header
frame_relay_header frame =
    if nat_lt (length frame) 3
    then record { len = 3; carried = carried.Unknown }
    else if is_set 0 0 frame
    then record { len = 4; carried = carried.Unknown }
    else if is_set 0 1 frame then after_address 2 frame
    else if is_set 0 2 frame then after_address 3 frame
    else if is_set 0 3 frame then after_address 4 frame
    else record { len = 4; carried = carried.Unknown }
