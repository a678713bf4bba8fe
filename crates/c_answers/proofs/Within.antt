-- The parts of a frame are within it.
use Rattle.std.proofs.Common.{ℕ, ◌≤◌, IfSome, List, Option, Some, None, length, ap, arith, inl, inr, length-append, subst, sym}
use Rattle.packet.proofs.Places.{header_within}
use Rattle.packet.specs.Network.{HasNetwork}
use Rattle.packet.specs.SlicedPacket.{HasLayers, HasLayersAfter, IsFrame}
use Rattle.packet.specs.declared.error.SliceError.{SliceError}
use Rattle.packet.specs.declared.link.LinkType.{LinkType}
use Rattle.packet.specs.declared.sliced_packet.SlicedPacket.{SlicedPacket}
use Rattle.packet.specs.declared.transport.TransportSlice.{TransportSlice}
use Rattle.packet_parts.specs.IpSlice.{header_len_of}
use Rattle.packet_parts.specs.declared.ip_slice.IpSlice.{IpSlice}
use Rattle.c_answers.specs.Private.Within.{ArePartsWithin}

-- the headers of an IP packet are in it
network : (place : ℕ) (payload : List ℕ) (net : Option IpSlice) (transport : Option TransportSlice) (stop : Option SliceError)
    → HasNetwork place payload net transport stop → IfSome net (λ ip. header_len_of ip ≤ length payload)
network place payload None transport stop n = tt
network place payload (Some ip) transport stop n = header_within payload ip n.parts.parts

layers : (frame_len : ℕ) (first : Option ℕ) (bytes : List ℕ) (packet : SlicedPacket) (stop : Option SliceError) → HasLayers frame_len first bytes packet stop
    → length bytes ≤ frame_len → ArePartsWithin frame_len packet
layers frame_len first bytes packet stop l within = record {
  payload = omega (arith, within, ap length l.tags.whole, length-append {A = ℕ});
  headers = elim l.ends [
    | inl tag ↦ subst (λ n. IfSome n (λ ip. header_len_of ip ≤ length packet.payload.now)) (sym tag.net) tt
    | inr (inl other) ↦ subst (λ n. IfSome n (λ ip. header_len_of ip ≤ length packet.payload.now)) (sym other.net) tt
    | inr (inr ip) ↦ network _ packet.payload.now packet.net packet.transport stop ip.network
  ];
}

-- the parts of a frame, and those of bytes after an EtherType
pub of_frame : (link_type : LinkType) (frame : List ℕ) (packet : SlicedPacket) (stop : Option SliceError) → IsFrame link_type frame packet stop
    → ArePartsWithin (length frame) packet
of_frame link_type frame packet stop f =
    layers (length frame) f.ether_type f.bytes packet stop f.layers (omega (arith, ap length f.begins.whole, length-append {A = ℕ}))

pub of_bytes : (first : Option ℕ) (bytes : List ℕ) (packet : SlicedPacket) (stop : Option SliceError) → HasLayersAfter first bytes packet stop
    → ArePartsWithin (length bytes) packet
of_bytes first bytes packet stop l = layers (length bytes) first bytes packet stop l.layers (omega arith)
