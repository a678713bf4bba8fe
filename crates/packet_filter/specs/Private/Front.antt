-- What tests ask of the packet in a frame: all of it but its transport header.
use Rattle.std.specs.Prelude.{ℕ, ◌≡◌, Bool, true, false, List, Option, None, Some}
use Rattle.packet.specs.SlicedPacket.{IsFrame}
use Rattle.packet.specs.declared.error.SliceError.{SliceError}
use Rattle.packet.specs.declared.error.SliceError.TheVariants as error
use Rattle.packet.specs.declared.lax_sliced_packet.LaxSlicedPacket.{LaxSlicedPacket}
use Rattle.packet.specs.declared.link.LinkType.{LinkType}
use Rattle.packet.specs.declared.link_layers.LinkLayers.{LinkLayers}
use Rattle.packet.specs.declared.sliced_packet.SlicedPacket.{SlicedPacket}
use Rattle.packet.specs.declared.transport.TransportSlice.{TransportSlice}
use Rattle.packet_parts.specs.declared.ip_slice.IpSlice.{IpSlice}

-- the packet with this transport header, and with this reason why it is not read further
abbrev pub completed : LaxSlicedPacket → Option TransportSlice → Option SliceError
    → LaxSlicedPacket
completed lax transport stop = record {
  packet = record lax.packet { transport = transport };
  stop = stop;
}

-- the reason is in the IP packet
abbrev pub is_in_ip : Option SliceError → Bool
is_in_ip (Some (error.Ip e)) = true
is_in_ip _ = false

-- the packet in the frame is this one but for its transport header, and for a reason in that
pub record IsFront (link_type : LinkType) (frame : List ℕ) (lax : LaxSlicedPacket)
    : Type 0 where
  pub transport : Option TransportSlice
  pub stop : Option SliceError
  pub carried : IsFrame link_type frame (completed lax transport stop).packet stop
  pub same_reason : is_in_ip lax.stop ≡ is_in_ip stop

-- a packet of these layers and this IP packet, without a transport header
abbrev pub packet_of : LinkLayers → Option IpSlice → SlicedPacket
packet_of layers net = record {
  link = layers.link;
  vlan = layers.vlan;
  ether_type = layers.ether_type;
  payload = layers.payload;
  net = net;
  transport = None;
}
