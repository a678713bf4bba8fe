-- What an expression says of a frame.
use Rattle.std.specs.Prelude.{ℕ, ◌≡◌, ◌<◌, ◌⊎◌, Bool, true, false, List, [], length, None}
use Rattle.packet.specs.Link.{link_len}
use Rattle.packet.specs.SlicedPacket.{IsFrame, Layers, layers_of}
use Rattle.packet.specs.declared.lax_sliced_packet.LaxSlicedPacket.{LaxSlicedPacket}
use Rattle.packet.specs.declared.link.LinkType.{LinkType}
use Rattle.packet_filter.specs.Meaning.{Expression, Matches, negation}

-- a packet of nothing: no header, no tag, no EtherType, and no byte
abbrev pub nothing : Layers
nothing = record {
  link = None;
  tags = [];
  ether_type = None;
  payload = [];
  net = None;
  transport = None;
}

-- The packet in a frame: its layers as far as they can be read. A frame that ends within its link
-- header has a packet of nothing.
abbrev pub IsPacketIn : LinkType → List ℕ → LaxSlicedPacket → Type 0
IsPacketIn link_type frame lax = IsFrame link_type frame lax.packet lax.stop
    ⊎ ((length frame < link_len link_type frame) × (layers_of lax.packet ≡ nothing)
    × (lax.stop ≡ None))

-- the expression is true of the packet in a frame that had `len` bytes on the wire
pub record MatchesFrame (expression : Expression) (link_type : LinkType) (frame : List ℕ)
    (len : ℕ) : Type 0 where
  pub packet : LaxSlicedPacket
  pub carried : IsPacketIn link_type frame packet
  pub matches : Matches expression packet len

-- the answer says whether it is, or its negation
abbrev pub Answers : Expression → LinkType → List ℕ → ℕ → Bool → Type 0
Answers expression link_type frame len true = MatchesFrame expression link_type frame len
Answers expression link_type frame len false =
    MatchesFrame (negation expression) link_type frame len
