-- The headers of PPP (RFC 1661, RFC 1662) and of Cisco's HDLC (RFC 1547 section 4.3.1).
use Rattle.std.specs.Prelude.{ℕ, ◌+◌, ◌||◌, nat_le, if◌then◌else◌, List, length, slice_index}
use Rattle.packet_links.specs.Bytes.{has, is_set, number_at}
use Rattle.packet_links.specs.declared.header.Carried.TheVariants as carried
use Rattle.packet_links.specs.declared.header.Header.{Header}

-- the protocol at a place: two bytes, of which the first is even, or one odd byte (RFC 1661
-- section 6.5). It has one byte at least, if the frame ends before it.
abbrev pub protocol_header : ℕ → List ℕ → Header
protocol_header place frame = if nat_le (length frame) place || is_set 0 place frame
    then record { len = place + 1; carried = carried.PppProtocol (slice_index frame place) }
    else record { len = place + 2; carried = carried.PppProtocol (number_at place frame) }

-- LINKTYPE_PPP: the protocol, before which the address ff and the control 03 can stand (RFC 1662
-- section 3.1). The protocol 00ff is reserved (RFC 1661 section 2), so ff is always the address.
abbrev pub ppp_header : List ℕ → Header
ppp_header frame =
    if has 0xff 0 frame
    then (if has 0x03 1 frame then protocol_header 2 frame
    else record { len = 2; carried = carried.Unknown })
    else protocol_header 0 frame

-- LINKTYPE_C_HDLC: address, control, and an EtherType
abbrev pub cisco_hdlc_header : List ℕ → Header
cisco_hdlc_header frame = record { len = 4; carried = carried.EtherType (number_at 2 frame) }

-- LINKTYPE_PPP_HDLC: Cisco's header, if the address is 0f or 8f, or else that of PPP
abbrev pub ppp_hdlc_header : List ℕ → Header
ppp_hdlc_header frame = if has 0x0f 0 frame || has 0x8f 0 frame
    then cisco_hdlc_header frame else ppp_header frame
