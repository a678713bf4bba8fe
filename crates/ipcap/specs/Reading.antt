-- What a frame is found to carry.
use Rattle.std.specs.Prelude.{ℕ, ◌≡◌, ◌-◌, ◌||◌, ◌⊎◌, Bool, false, MatchBool, List, length, nat_lt}
use Rattle.std.specs.Prelude.{MatchOption, Option, Some, None, option_map}
use Rattle.std.specs.Option.{is_some}
use Rattle.etherparse_link.specs.Bytes.{number_at}
use Rattle.packet.specs.Link.{FramedParts, LacksLink, LinkParts, LinuxSll2Parts, LinuxSllParts}
use Rattle.packet.specs.Link.{LoopbackParts, link_parts, link_type_of}
use Rattle.packet.specs.SlicedPacket.{HasLinkLayers, carries_ip}
use Rattle.packet.specs.declared.link.LinkError.{LinkError}
use Rattle.packet.specs.declared.link.LinkType.{LinkType}
use Rattle.packet.specs.declared.link_layers.LinkLayers.{LinkLayers}
use Rattle.packet_capture.specs.declared.any.Capture.{Capture}
use Rattle.packet_capture.specs.declared.any.Capture.TheVariants.{Pcap, Pcapng}
use Rattle.packet_capture.specs.declared.any.PacketHead.{PacketHead}
use Rattle.ipcap.specs.Shown.{IsRefused, IsShown, is_wrong, is_wrong_header}
use Rattle.ipcap.specs.declared.reading.NoPacket.{NoPacket}
use Rattle.ipcap.specs.declared.reading.NoPacket.TheVariants.{NoLinkHeader, OtherCarried}
use Rattle.ipcap.specs.declared.reading.NoPacket.TheVariants.{OtherDevice, OtherFamily}
use Rattle.ipcap.specs.declared.reading.NoPacket.TheVariants.{OtherLinkType, OtherType}
use Rattle.ipcap.specs.declared.reading.Reading.{Reading}
use Rattle.ipcap.specs.declared.reading.Reading.TheVariants.{Other, Packet, Refused}

-- a packet, of which the capture left this many bytes out, is shown like this, or refused for this
-- reason
abbrev pub ReadsPacket : ℕ → List ℕ → Reading → Type 0
ReadsPacket left_out packet (Packet shown) = IsShown left_out packet shown
ReadsPacket left_out packet (Refused e) = IsRefused left_out packet e
ReadsPacket left_out packet reading = ⊥

-- what says that a frame carries another protocol: its EtherType, or else its family, the ARPHRD
-- type of its device (LINKTYPE_LINUX_SLL, LINKTYPE_LINUX_SLL2), or what its framing tells; what has
-- none of these counts as without a link header
abbrev pub other_of : Option ℕ → Option LinkParts → ℕ → NoPacket
other_of (Some ether_type) link len = OtherType ether_type
other_of None (Some (LoopbackParts family)) len = OtherFamily family
other_of None (Some (LinuxSllParts bytes)) len = OtherDevice (number_at 2 bytes)
other_of None (Some (LinuxSll2Parts bytes)) len = OtherDevice (number_at 8 bytes)
other_of None (Some (FramedParts bytes carried)) len = OtherCarried carried
other_of None link len = NoLinkHeader len

-- the reading of a frame with these layers: that of its packet; or it ends within a tag, or carries
-- another protocol
abbrev pub ReadsCarried : ℕ → ℕ → LinkLayers → Reading → Type 0
ReadsCarried left_out len layers reading = MatchBool (is_some layers.stop)
    (reading ≡ Other (NoLinkHeader len))
    (MatchBool (carries_ip (option_map link_parts layers.link) layers.ether_type)
    (ReadsPacket left_out layers.payload.now reading)
    (reading ≡ Other (other_of layers.ether_type (option_map link_parts layers.link) len)))

-- a frame of this type is read
pub record ReadsLayers (link_type : LinkType) (left_out : ℕ) (frame : List ℕ) (reading : Reading)
    : Type 0 where
  pub layers : LinkLayers
  pub has : HasLinkLayers link_type frame layers
  pub reads : ReadsCarried left_out (length frame) layers reading

-- or it ends within its link header
pub record LacksHeader (link_type : LinkType) (frame : List ℕ) (reading : Reading) : Type 0 where
  pub e : LinkError
  pub lacks : LacksLink link_type frame e
  pub reads : reading ≡ Other (NoLinkHeader (length frame))

-- the reading of a frame of this link type, of which the capture left this many bytes out
abbrev pub ReadsFrame : LinkType → ℕ → List ℕ → Reading → Type 0
ReadsFrame link_type left_out frame reading =
    ReadsLayers link_type left_out frame reading ⊎ LacksHeader link_type frame reading

-- the same of a frame whose link type has this number: of one that is not read it says no more
abbrev pub ReadsNumbered : ℕ → ℕ → List ℕ → Reading → Type 0
ReadsNumbered number left_out frame reading =
    MatchOption (link_type_of number) (reading ≡ Other (OtherLinkType number))
    (λ link_type. ReadsFrame link_type left_out frame reading)

-- fewer bytes were captured than the packet had
abbrev pub is_cut : PacketHead → Bool
is_cut head = nat_lt head.captured_len head.original_len

-- how many bytes fewer
abbrev pub left_out : PacketHead → ℕ
left_out head = head.original_len - head.captured_len

-- The most bytes of a block that are read: a record with 262144 captured bytes and its head; or a
-- block of pcapng that has room for as many, and for 65536 bytes of fields and options.
abbrev pub max_len : Capture → ℕ
max_len (Pcap header) = 262160
max_len (Pcapng section) = 327680

-- whether one of its checksums is wrong
abbrev pub has_wrong_checksum : Reading → Bool
has_wrong_checksum (Packet shown) =
    is_wrong_header shown.is_header_right || is_wrong shown.verdict
has_wrong_checksum reading = false
