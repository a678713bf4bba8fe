-- A link header and what it says of the bytes after it.
use Rattle.std.specs.Prelude.{ℕ, ◌+◌, ◌==◌, ◌&&◌, ◌||◌, Bool, true, false, if◌then◌else◌, List}
use Rattle.std.specs.Prelude.{Option, Some, None, length, nat_le, slice_index}
use Rattle.packet_links.specs.Bytes.{has, is_set, number_at}
use Rattle.packet_links.specs.declared.header.Carried.{Carried}
use Rattle.packet_links.specs.declared.header.Carried.TheVariants as carried
use Rattle.packet_links.specs.declared.header.Header.{Header}

-- What follows is an IP packet: by its EtherType (RFC 894, RFC 2464 section 3), its number of PPP
-- (RFC 1332 section 2, RFC 5072 section 2) or its NLPID (RFC 2427 section 4.1, RFC 2590); or by LLC
-- (RFC 948), or with no number. The version is told by the packet itself.
abbrev pub is_ip : Carried → Bool
is_ip (carried.EtherType number) = number == 0x0800 || number == 0x86dd
is_ip (carried.PppProtocol number) = number == 0x0021 || number == 0x0057
is_ip (carried.Nlpid number) = number == 0xcc || number == 0x8e
is_ip carried.Ip = true
is_ip other = false

-- the EtherType of what follows, if it has one
abbrev pub ether_type_of : Carried → Option ℕ
ether_type_of (carried.EtherType number) = Some number
ether_type_of other = None

-- the organization at a place whose protocols are EtherTypes: 00 00 00 (RFC 1042), or 00 00 f8, as
-- a bridge writes it (IEEE 802.1H)
abbrev pub is_ether_type : ℕ → List ℕ → Bool
is_ether_type place frame = has 0 place frame && has 0 (place + 1) frame
    && (has 0 (place + 2) frame || has 0xf8 (place + 2) frame)

-- a whole frame of Ethernet, with or without its check sequence: organization 00 80 c2, protocol
-- 00 01 or 00 07 (RFC 2427 section 4.2, RFC 2684 section 5.2)
abbrev pub is_bridged : ℕ → List ℕ → Bool
is_bridged place frame = has 0 place frame && has 0x80 (place + 1) frame
    && has 0xc2 (place + 2) frame && has 0 (place + 3) frame
    && (has 0x01 (place + 4) frame || has 0x07 (place + 4) frame)

-- SNAP at a place: three bytes name an organization, two its protocol (IEEE 802 section 9.2.2).
-- Before a bridged frame of Ethernet come `padding` bytes. They and its header are a part of SNAP
-- here, and the last two bytes of its header are the EtherType.
abbrev pub snap_header : ℕ → ℕ → List ℕ → Header
snap_header padding place frame = if is_ether_type place frame
    then record { len = place + 5; carried = carried.EtherType (number_at (place + 3) frame) }
    else if is_bridged place frame
    then record {
      len = place + 5 + padding + 14;
      carried = carried.EtherType (number_at (place + 5 + padding + 12) frame);
    }
    else record { len = place + 5; carried = carried.Snap }

-- the control at a place has one byte, that of an unnumbered PDU: its bits 0 and 1 are set (IEEE
-- 802.2 section 5.2); at least one, if the frame ends before it
abbrev pub is_unnumbered : ℕ → List ℕ → Bool
is_unnumbered place frame =
    nat_le (length frame) place || (is_set 0 place frame && is_set 1 place frame)

-- LLC at a place: the addresses of the destination's and of the source's protocol, and one or two
-- bytes of control (IEEE 802.2 section 3.2). After aa aa 03 comes SNAP, in which a bridged frame
-- has two bytes of padding (RFC 2684 section 5.2), and after 06 06 03 an IP packet (RFC 948).
abbrev pub llc_header : ℕ → List ℕ → Header
llc_header place frame =
    if has 0xaa place frame && has 0xaa (place + 1) frame && has 0x03 (place + 2) frame
    then snap_header 2 (place + 3) frame
    else if has 0x06 place frame && has 0x06 (place + 1) frame && has 0x03 (place + 2) frame
    then record { len = place + 3; carried = carried.Ip }
    else record {
      len = place + 2 + (if is_unnumbered (place + 2) frame then 1 else 2);
      carried = carried.Llc (slice_index frame place);
    }
