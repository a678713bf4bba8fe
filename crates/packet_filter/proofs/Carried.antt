-- What is found of a plain frame is its packet but for the transport header; and what an expression says of that it says of the packet.
use Rattle.std.proofs.Common.{ℕ, ◌≡◌, ◌+◌, ◌-◌, List, Bool, true, false, IsTrue, Option, Some, None, inl, inr, length, option_map, refl, sym}
use Rattle.std.specs.Prelude.{◌↔◌}
use Rattle.etherparse.specs.Bytes.{IsBytes}
use Rattle.packet.specs.Link.{link_parts}
use Rattle.packet.specs.Network.{HasIp}
use Rattle.packet.specs.SlicedPacket.{HasLinkLayers, IsVerdictOn, carries_ip}
use Rattle.packet.specs.Vlan.{AreAllTags}
use Rattle.packet.specs.declared.error.SliceError.TheVariants as error
use Rattle.packet.specs.declared.error.SliceError.{SliceError}
use Rattle.packet.specs.declared.lax_sliced_packet.LaxSlicedPacket.{LaxSlicedPacket}
use Rattle.packet.specs.declared.link.LinkType.{LinkType}
use Rattle.packet.specs.declared.link_layers.LinkLayers.{LinkLayers}
use Rattle.packet.specs.declared.sliced_packet.SlicedPacket.{SlicedPacket}
use Rattle.packet.specs.declared.transport.TransportSlice.{TransportSlice}
use Rattle.packet_filter.proofs.Transports.{has_transport}
use Rattle.packet_filter.specs.Frame.{Answers, IsPacketIn}
use Rattle.packet_filter.specs.Meaning.{Expression, HasProto, Holds, IsOf, Loads, Matches, Tells, compound, negation, one}
use Rattle.packet_filter.specs.Private.Front.{IsFront, completed, is_in_ip, packet_of}
use Rattle.packet_filter.specs.declared.expression.Layer.TheVariants as layer
use Rattle.packet_filter.specs.declared.expression.Layer.{Layer}
use Rattle.packet_filter.specs.declared.expression.Network.TheVariants as network
use Rattle.packet_filter.specs.declared.expression.Network.{Network}
use Rattle.packet_filter.specs.declared.expression.Operator.TheVariants.{And, Or}
use Rattle.packet_filter.specs.declared.expression.Primitive.TheVariants as primitive
use Rattle.packet_filter.specs.declared.expression.Primitive.{Primitive}
use Rattle.packet_filter.specs.declared.expression.Quantity.TheVariants.{Length, Load}
use Rattle.packet_filter.specs.declared.expression.Quantity.{Quantity}
use Rattle.packet_filter.specs.declared.expression.Version.{Version}
use Rattle.packet_parts.specs.IpSlice.{HasLaxIpParts, header_len_of}
use Rattle.packet_parts.specs.declared.checksum.Verdict.{Verdict}
use Rattle.packet_parts.specs.declared.ip_slice.IpSlice.{IpSlice}
use Rattle.packet_parts.specs.declared.ip_slice.LaxIpSlice.{LaxIpSlice}

-- a link header, no incomplete tag, and a whole IP packet
pub plain : (t : LinkType) (frame : List ℕ) (l : LinkLayers) (lax : LaxIpSlice) → HasLinkLayers t frame l → l.stop ≡ None → IsTrue (carries_ip (option_map link_parts l.link) l.ether_type)
    → HasLaxIpParts l.payload.now lax → lax.stop ≡ None → IsBytes lax.slice.payload.now → IsFront t frame (record { packet = packet_of l (Some lax.slice); stop = None })
plain t frame l lax has tags ip parts whole bytes =
    let found = has_transport (length frame - length l.payload.now + header_len_of lax.slice) lax.slice bytes in
    let network : HasIp (length frame - length l.payload.now) l.payload.now lax.slice found.transport found.missing = record { ip_stop = lax.stop; parts = parts; missing = found.missing; reads = found.reads; stops = rw whole refl } in
    let all : AreAllTags l.vlan l.ether_type = rw tags at has.ends in
    record {
      transport = found.transport;
      stop = found.missing;
      carried = record { ether_type = has.first; bytes = has.bytes; begins = has.begins; layers = record { tags = has.tags; ends = inr (inr (record { tags = all; ip = ip; network = network })) } };
      same_reason = sym found.not_ip;
    }

-- a verdict on a checksum depends on no transport header
same_verdict : (net : Option IpSlice) (s t : Option SliceError) (v : Option Verdict) → is_in_ip s ≡ is_in_ip t → IsVerdictOn net s v → IsVerdictOn net t v
same_verdict None s t v same h = h
same_verdict (Some ip) (Some (error.Ip e)) (Some (error.Ip f)) v same h = h
same_verdict (Some ip) (Some (error.Ip e)) t v same h = cc
same_verdict (Some ip) s (Some (error.Ip f)) v same h = cc
same_verdict (Some ip) s t v same h = h

-- nor does what a packet is asked
module _ (p : SlicedPacket) (transport : Option TransportSlice) where
  abbrev other : SlicedPacket
  other = record p { transport = transport }

  same_proto : (v : Option Version) (number : ℕ) → HasProto v number p ↔ HasProto v number other
  same_proto None number = (λ h. h, λ h. h)
  same_proto (Some v) number = (λ h. h, λ h. h)

  same_network : (n : Option Network) → IsOf n p ↔ IsOf n other
  same_network None = (λ h. h, λ h. h)
  same_network (Some (network.Ip v)) = (λ h. h, λ h. h)
  same_network (Some network.Arp) = (λ h. h, λ h. h)
  same_network (Some network.Rarp) = (λ h. h, λ h. h)

  same_bytes : (l : Layer) (bytes : List ℕ) → Loads l p bytes ↔ Loads l other bytes
  same_bytes (layer.Payload v number) bytes = let s = same_proto v number in (λ h. (s.0 h.0, h.1), λ h. (s.1 h.0, h.1))
  same_bytes layer.Ether bytes = (λ h. h, λ h. h)
  same_bytes (layer.Ip v) bytes = (λ h. h, λ h. h)
  same_bytes (layer.Type number) bytes = (λ h. h, λ h. h)

  same_number : (q : Quantity) (len number : ℕ) → Tells q p len number ↔ Tells q other len number
  same_number Length len number = (λ h. h, λ h. h)
  same_number (Load l at size) len number = (λ h. (h.0, (same_bytes l h.0).0 h.1, h.2), λ h. (h.0, (same_bytes l h.0).1 h.1, h.2))

module _ (lax : LaxSlicedPacket) (transport : Option TransportSlice) (stop : Option SliceError) (same : is_in_ip lax.stop ≡ is_in_ip stop) (len : ℕ) where
  same_primitive : (p : Primitive) → Holds p lax len ↔ Holds p (completed lax transport stop) len
  same_primitive primitive.WrongChecksum = (
    λ h. elim h [ inl x ↦ inl x | inr x ↦ inr (same_verdict lax.packet.net lax.stop stop _ same x) ],
    λ h. elim h [ inl x ↦ inl x | inr x ↦ inr (same_verdict lax.packet.net stop lax.stop _ (sym same) x) ],
  )
  same_primitive (primitive.Proto v number) = same_proto lax.packet transport v number
  same_primitive (primitive.Net n d address bits) = let s = same_network lax.packet transport n in (λ h. (s.0 h.0, h.1), λ h. (s.1 h.0, h.1))
  same_primitive (primitive.Masked n d address mask) = let s = same_network lax.packet transport n in (λ h. (s.0 h.0, h.1), λ h. (s.1 h.0, h.1))
  same_primitive (primitive.Compare q mask r limit) = let s = same_number lax.packet transport q len in (λ h. (h.0, (s h.0).0 h.1, h.2), λ h. (h.0, (s h.0).1 h.1, h.2))
  same_primitive p = (λ h. h, λ h. h)

  pub same_answer : (e : Expression) → Matches e lax len ↔ Matches e (completed lax transport stop) len
  same_answer (one p) = same_primitive p
  same_answer (negation e) = let s = same_answer e in (λ n m. n (s.1 m), λ n m. n (s.0 m))
  same_answer (compound And a b) = let s = same_answer a in let t = same_answer b in (λ m. (s.0 m.0, t.0 m.1), λ m. (s.1 m.0, t.1 m.1))
  same_answer (compound Or a b) =
      let s = same_answer a in
      let t = same_answer b in
      (λ m. elim m [ inl x ↦ inl (s.0 x) | inr x ↦ inr (t.0 x) ], λ m. elim m [ inl x ↦ inl (s.1 x) | inr x ↦ inr (t.1 x) ])

-- An answer about a packet in a frame is one about the frame; and so is one about what is found of it.
pub answered : (answer : Bool) (e : Expression) (link_type : LinkType) (frame : List ℕ) (len : ℕ) (lax : LaxSlicedPacket) → IsPacketIn link_type frame lax → IsTrue answer ↔ Matches e lax len → Answers e link_type frame len answer
answered true e link_type frame len lax c m = record { packet = lax; carried = c; matches = m.0 refl }
answered false e link_type frame len lax c m = record { packet = lax; carried = c; matches = λ h. let no : false ≡ true = m.1 h in cc }

pub of_front : (answer : Bool) (e : Expression) (link_type : LinkType) (frame : List ℕ) (len : ℕ) (lax : LaxSlicedPacket) → IsFront link_type frame lax → IsTrue answer ↔ Matches e lax len → Answers e link_type frame len answer
of_front answer e link_type frame len lax f m =
    let same = same_answer lax f.transport f.stop f.same_reason len e in
    answered answer e link_type frame len (completed lax f.transport f.stop) (inl f.carried) (λ h. same.0 (m.0 h), λ h. m.1 (same.1 h))
