-- The IP packet that a frame carries, and the VLANs that it came in.
use Rattle.std.specs.Prelude.{ℕ, ◌≡◌, ◌%◌, ◌^◌, ◌⊎◌, List, [], ◌∷◌, ◌++◌, IsFalse, IsSome, IsTrue}
use Rattle.std.specs.Prelude.{None, Option, Some, option_map}
use Rattle.etherparse_link.specs.Bytes.{number_at}
use Rattle.packet.specs.Link.{LacksLink, link_parts}
use Rattle.packet.specs.SlicedPacket.{HasLinkLayers, carries_ip}
use Rattle.packet.specs.Vlan.{tags_of}
use Rattle.packet.specs.declared.link.LinkError.{LinkError}
use Rattle.packet.specs.declared.link.LinkType.{LinkType}
use Rattle.packet.specs.declared.link_layers.LinkLayers.{LinkLayers}

-- the identifier of the VLAN in a tag: the lower 12 bits of its first two bytes (IEEE 802.1Q
-- section 9.6)
abbrev pub vlan_id : List ℕ → ℕ
vlan_id tag = number_at 0 tag % 2 ^ 12

-- that of the first tag of a frame, if it has one, and that of the second
abbrev pub outer_id : List (List ℕ) → Option ℕ
outer_id [] = None
outer_id (tag ∷ tags) = Some (vlan_id tag)

abbrev pub inner_id : List (List ℕ) → Option ℕ
inner_id [] = None
inner_id (tag ∷ tags) = outer_id tags

-- The frame is what stands before an IP packet, its link header and these tags, and that packet.
pub record CarriesPacket (link_type : LinkType) (frame front packet : List ℕ)
    (tags : List (List ℕ)) : Type 0 where
  pub layers : LinkLayers
  pub has : HasLinkLayers link_type frame layers
  pub goes_on : layers.stop ≡ None
  pub ip : IsTrue (carries_ip (option_map link_parts layers.link) layers.ether_type)
  pub has_tags : tags ≡ tags_of layers.vlan
  pub is_packet : packet ≡ layers.payload.now
  pub whole : frame ≡ front ++ packet

-- the frame ends within a tag, or carries another protocol
pub record CarriesOther (link_type : LinkType) (frame : List ℕ) : Type 0 where
  pub layers : LinkLayers
  pub has : HasLinkLayers link_type frame layers
  pub other : IsSome layers.stop
      ⊎ IsFalse (carries_ip (option_map link_parts layers.link) layers.ether_type)

-- there is no IP packet in the frame: it ends within its link header or a tag, or carries another
-- protocol
abbrev pub CarriesNone : LinkType → List ℕ → Type 0
CarriesNone link_type frame =
    ((e : LinkError) × LacksLink link_type frame e) ⊎ CarriesOther link_type frame
