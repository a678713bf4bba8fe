-- The header of a frame, by its link type (the registry of link types of tcpdump.org).
use Rattle.std.specs.Prelude.{ℕ, ◌≡◌, ◌<◌, ◌≤◌, ◌==◌, false, if◌then◌else◌, List, length}
use Rattle.std.specs.Prelude.{Option, Some, None}
use Rattle.packet_links.specs.FrameRelay.{frame_relay_header}
use Rattle.packet_links.specs.Ieee80211.{ieee80211_header, radiotap_header}
use Rattle.packet_links.specs.Ppp.{cisco_hdlc_header, ppp_hdlc_header, ppp_header}
use Rattle.packet_links.specs.declared.framing.Framing.{Framing}
use Rattle.packet_links.specs.declared.framing.Framing.TheVariants as framing
use Rattle.packet_links.specs.declared.header.Carried.TheVariants as carried
use Rattle.packet_links.specs.declared.header.Header.{Header}

-- the framings by their numbers
abbrev pub framing_of : ℕ → Option Framing
framing_of number =
    if number == 8 then Some framing.Slip
    else if number == 9 then Some framing.Ppp
    else if number == 50 then Some framing.PppHdlc
    else if number == 104 then Some framing.CiscoHdlc
    else if number == 105 then Some framing.Ieee80211
    else if number == 107 then Some framing.FrameRelay
    else if number == 127 then Some framing.Ieee80211Radiotap
    else None

-- The header that a frame begins with. If the frame is shorter than its length, it ends within it;
-- the length is then the one up to which the bytes that are there tell. LINKTYPE_SLIP has a
-- direction and 15 bytes on compression before an IP packet.
abbrev pub header_in : Framing → List ℕ → Header
header_in framing.Slip frame = record { len = 16; carried = carried.Ip }
header_in framing.Ppp frame = ppp_header frame
header_in framing.PppHdlc frame = ppp_hdlc_header frame
header_in framing.CiscoHdlc frame = cisco_hdlc_header frame
header_in framing.FrameRelay frame = frame_relay_header frame
header_in framing.Ieee80211 frame = ieee80211_header false frame
header_in framing.Ieee80211Radiotap frame = radiotap_header frame

-- the frame begins with this header
pub record BeginsWith (framing : Framing) (frame : List ℕ) (header : Header) : Type 0 where
  pub is : header ≡ header_in framing frame
  pub whole : header.len ≤ length frame

-- it ends within its header, of which there are this many bytes at least
pub record EndsWithin (framing : Framing) (frame : List ℕ) (required_len : ℕ) : Type 0 where
  pub required : required_len ≡ (header_in framing frame).len
  pub short : length frame < required_len
