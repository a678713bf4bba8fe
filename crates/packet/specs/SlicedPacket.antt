-- A frame in its layers.
use Rattle.std.specs.Prelude.{ℕ, ◌≡◌, ◌-◌, ◌==◌, ◌||◌, ◌⊎◌, Bool, true, false, IsFalse, IsTrue}
use Rattle.std.specs.Prelude.{IsSomeAnd, List, length, Option, Some, None, Result, Ok, Err}
use Rattle.std.specs.Prelude.{option_map}
use Rattle.std.specs.Result.{result_map_both}
use Rattle.etherparse.specs.declared.err.LenError.{LenError}
use Rattle.etherparse_link.specs.ArpPacketSlice.{ViewsArp}
use Rattle.etherparse_link.specs.declared.arp_packet_slice.ArpPacketSlice.{ArpPacketSlice}
use Rattle.packet_links.specs.Header.{is_ip}
use Rattle.packet_parts.specs.Checksum.{IsVerdict}
use Rattle.packet_parts.specs.IpSlice.{IpParts, ip_parts}
use Rattle.packet_parts.specs.declared.checksum.Absence.TheVariants.{Incomplete}
use Rattle.packet_parts.specs.declared.checksum.Verdict.{Verdict}
use Rattle.packet_parts.specs.declared.checksum.Verdict.TheVariants.{Absent}
use Rattle.packet_parts.specs.declared.ip_slice.IpSlice.{IpSlice}
use Rattle.packet.specs.Link.{BeginsWithLink, FramedParts, LacksLink, LinkParts, LoopbackParts}
use Rattle.packet.specs.Link.{link_parts}
use Rattle.packet.specs.Network.{HasNetwork}
use Rattle.packet.specs.Transport.{TransportParts, transport_parts}
use Rattle.packet.specs.Vlan.{AreAllTags, EndsInTag, EndsTags, HasTags, tags_of}
use Rattle.packet.specs.declared.error.SliceError.{SliceError}
use Rattle.packet.specs.declared.error.SliceError.TheVariants as error
use Rattle.packet.specs.declared.lax_sliced_packet.LaxSlicedPacket.{LaxSlicedPacket}
use Rattle.packet.specs.declared.link.LinkError.{LinkError}
use Rattle.packet.specs.declared.link.LinkType.{LinkType}
use Rattle.packet.specs.declared.link_layers.LinkLayers.{LinkLayers}
use Rattle.packet.specs.declared.sliced_packet.SlicedPacket.{SlicedPacket}

-- what a packet says, apart from where its slices lie in memory
pub record Layers : Type 0 where
  pub link : Option LinkParts
  pub tags : List (List ℕ)
  pub ether_type : Option ℕ
  pub payload : List ℕ
  pub net : Option IpParts
  pub transport : Option TransportParts

abbrev pub layers_of : SlicedPacket → Layers
layers_of packet = record {
  link = option_map link_parts packet.link;
  tags = tags_of packet.vlan;
  ether_type = packet.ether_type;
  payload = packet.payload.now;
  net = option_map ip_parts packet.net;
  transport = option_map transport_parts packet.transport;
}

-- What follows is an IP packet: after the EtherType of IPv4 or IPv6 (RFC 894, RFC 2464 section 3);
-- after their families, of which that of IPv6 differs from system to system; after what another
-- framing tells; or if the packet is all there is. The version is told by the packet itself.
abbrev pub carries_ip : Option LinkParts → Option ℕ → Bool
carries_ip link (Some ether_type) = ether_type == 0x0800 || ether_type == 0x86dd
carries_ip (Some (LoopbackParts family)) None =
    family == 2 || family == 24 || family == 28 || family == 30
carries_ip (Some (FramedParts bytes carried)) None = is_ip carried
carries_ip None None = true
carries_ip link None = false

-- the frame is this link header, these tags, and these bytes; or it ends within a tag
pub record HasLinkLayers (link_type : LinkType) (frame : List ℕ) (layers : LinkLayers)
    : Type 0 where
  pub first : Option ℕ
  pub bytes : List ℕ
  pub begins : BeginsWithLink link_type frame layers.link first bytes
  pub tags : HasTags first bytes layers.vlan layers.ether_type layers.payload.now
  pub ends : EndsTags (length frame) layers.vlan layers.ether_type layers.payload.now layers.stop

-- it ends within a tag: nothing after it is read
pub record StopsInTag (frame_len : ℕ) (packet : SlicedPacket) (stop : Option SliceError)
    : Type 0 where
  pub e : LenError
  pub ends : EndsInTag frame_len packet.vlan packet.ether_type packet.payload.now e
  pub stops : stop ≡ Some (error.Vlan e)
  pub net : packet.net ≡ None
  pub transport : packet.transport ≡ None

-- it carries another protocol than IP, which is not read
pub record CarriesOther (packet : SlicedPacket) (stop : Option SliceError) : Type 0 where
  pub tags : AreAllTags packet.vlan packet.ether_type
  pub other : IsFalse (carries_ip (option_map link_parts packet.link) packet.ether_type)
  pub goes_on : stop ≡ None
  pub net : packet.net ≡ None
  pub transport : packet.transport ≡ None

-- it carries an IP packet, at the end of the frame
pub record CarriesIp (frame_len : ℕ) (packet : SlicedPacket) (stop : Option SliceError)
    : Type 0 where
  pub tags : AreAllTags packet.vlan packet.ether_type
  pub ip : IsTrue (carries_ip (option_map link_parts packet.link) packet.ether_type)
  pub network : HasNetwork (frame_len - length packet.payload.now) packet.payload.now packet.net
      packet.transport stop

-- The last bytes of a frame of this length, before which the EtherType `first` stands, are the
-- layers of this packet after its link header, as far as they can be read; and this is why they
-- cannot be read further.
pub record HasLayers (frame_len : ℕ) (first : Option ℕ) (bytes : List ℕ) (packet : SlicedPacket)
    (stop : Option SliceError) : Type 0 where
  pub tags : HasTags first bytes packet.vlan packet.ether_type packet.payload.now
  pub ends : StopsInTag frame_len packet stop ⊎ CarriesOther packet stop
      ⊎ CarriesIp frame_len packet stop

-- the bytes are these layers, with no link header before them
pub record HasLayersAfter (first : Option ℕ) (bytes : List ℕ) (packet : SlicedPacket)
    (stop : Option SliceError) : Type 0 where
  pub link : packet.link ≡ None
  pub layers : HasLayers (length bytes) first bytes packet stop

-- the frame is a link header of this type and these layers
pub record IsFrame (link_type : LinkType) (frame : List ℕ) (packet : SlicedPacket)
    (stop : Option SliceError) : Type 0 where
  pub ether_type : Option ℕ
  pub bytes : List ℕ
  pub begins : BeginsWithLink link_type frame packet.link ether_type bytes
  pub layers : HasLayers (length frame) ether_type bytes packet stop

-- reading a frame as far as it goes: it is refused only if it ends within its link header
abbrev pub ReadsLaxFrame : LinkType → List ℕ → Result LaxSlicedPacket LinkError → Type 0
ReadsLaxFrame link_type frame (Ok lax) = IsFrame link_type frame lax.packet lax.stop
ReadsLaxFrame link_type frame (Err e) = LacksLink link_type frame e

-- reading whole: it is what is read as far as it goes if nothing stops that, or else what stops it
abbrev pub ReadsWhole : (SlicedPacket → Option SliceError → Type 0)
    → Result SlicedPacket SliceError → Type 0
ReadsWhole Lax (Ok packet) = Lax packet None
ReadsWhole Lax (Err e) = (packet : SlicedPacket) × Lax packet (Some e)

-- the same of a frame, which can also end within its link header
pub record RefusesLink (link_type : LinkType) (frame : List ℕ) (e : SliceError) : Type 0 where
  pub inside : LinkError
  pub lacks : LacksLink link_type frame inside
  pub error : e ≡ error.Link inside

abbrev pub ReadsFrame : LinkType → List ℕ → Result SlicedPacket SliceError → Type 0
ReadsFrame link_type frame (Ok packet) = ReadsWhole (IsFrame link_type frame) (Ok packet)
ReadsFrame link_type frame (Err e) =
    RefusesLink link_type frame e ⊎ ReadsWhole (IsFrame link_type frame) (Err e)

-- the answer is allowed, and all that are allowed say the same
pub record IsOnlyAnswer {A B : Type 0} (Allowed : A → Type 0) (said : A → B) (answer : A)
    : Type 0 where
  pub reads : Allowed answer
  pub only : (other : A) → Allowed other → said other ≡ said answer

-- what is read as far as it goes says, and what is read whole
abbrev pub lax_layers : LaxSlicedPacket → Layers × Option SliceError
lax_layers lax = (layers_of lax.packet, lax.stop)

abbrev pub whole_layers : Result SlicedPacket SliceError → Result Layers SliceError
whole_layers answer = result_map_both layers_of (λ e. e) answer

-- The reading of a frame as far as it goes has this answer, and no other; that of bytes after an
-- EtherType, or of an IP packet after none; and both if they are read whole.
abbrev pub IsLaxReadingOf : LinkType → List ℕ → Result LaxSlicedPacket LinkError → Type 0
IsLaxReadingOf link_type frame answer =
    IsOnlyAnswer (ReadsLaxFrame link_type frame) (result_map_both lax_layers (λ e. e)) answer

abbrev pub IsLaxReadingAfter : Option ℕ → List ℕ → LaxSlicedPacket → Type 0
IsLaxReadingAfter first bytes answer =
    IsOnlyAnswer (λ lax. HasLayersAfter first bytes lax.packet lax.stop) lax_layers answer

abbrev pub IsReadingOf : LinkType → List ℕ → Result SlicedPacket SliceError → Type 0
IsReadingOf link_type frame answer = IsOnlyAnswer (ReadsFrame link_type frame) whole_layers answer

abbrev pub IsReadingAfter : Option ℕ → List ℕ → Result SlicedPacket SliceError → Type 0
IsReadingAfter first bytes answer =
    IsOnlyAnswer (ReadsWhole (HasLayersAfter first bytes)) whole_layers answer

-- what was read as far as it goes, if nothing stopped that
abbrev pub whole_of : SlicedPacket → Option SliceError → Result SlicedPacket SliceError
whole_of packet None = Ok packet
whole_of packet (Some e) = Err e

-- the verdict on the checksum of an IP packet, not all of which may be there
abbrev pub IsVerdictOn : Option IpSlice → Option SliceError → Option Verdict → Type 0
IsVerdictOn None stop verdict = verdict ≡ None
IsVerdictOn (Some slice) (Some (error.Ip e)) verdict = verdict ≡ Some (Absent Incomplete)
IsVerdictOn (Some slice) stop verdict = IsSomeAnd verdict (IsVerdict slice)

-- the packet carries ARP (RFC 826), and this is what is seen of the ARP packet at the front of its
-- payload, or why that is incomplete
pub record CarriesArp (packet : SlicedPacket) (reading : Result ArpPacketSlice LenError)
    : Type 0 where
  pub ether_type : packet.ether_type ≡ Some 0x0806
  pub views : ViewsArp packet.payload.now
      (result_map_both (λ view. view.slice.now) (λ e. e) reading)
