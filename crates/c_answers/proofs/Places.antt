-- The parts of a frame are the bytes at their places.
use Rattle.std.proofs.Common.{ℕ, ◌≡◌, ◌+◌, ◌-◌, ◌++◌, Bool, IfSome, List, [], Option, Some, None, ap, append-nil, append_assoc, arith, drop, inl, inr, length, length-append, subst, sym, take, ◌∙◌}
use Rattle.std.proofs.Math.Seq.{drop-append_seam, take-append_seam}
use Rattle.std.specs.List.{concat}
use Rattle.packet.specs.Network.{HasNetwork}
use Rattle.packet.specs.SlicedPacket.{IsFrame}
use Rattle.packet.specs.Vlan.{tags_of}
use Rattle.packet.specs.declared.error.SliceError.{SliceError}
use Rattle.packet.specs.declared.link.LinkType.{LinkType}
use Rattle.packet.specs.declared.sliced_packet.SlicedPacket.{SlicedPacket}
use Rattle.packet.specs.declared.transport.TransportSlice.{TransportSlice}
use Rattle.packet_parts.proofs.IpParts.{ipv4_front, ipv6_front}
use Rattle.packet_parts.specs.IpSlice.{HasIpParts, HasPartsWith, header_bytes, header_len_of}
use Rattle.packet_parts.specs.declared.ip_slice.IpHeaderSlice.{IpHeaderSlice}
use Rattle.packet_parts.specs.declared.ip_slice.IpHeaderSlice.TheVariants as header
use Rattle.packet_parts.specs.declared.ip_slice.IpSlice.{IpSlice}
use Rattle.c_answers.specs.Layers.{IsPacketInC, LieThere, LiesThere, bytes_in, ip_parts_in_c, net_in_c}
use Rattle.c_answers.specs.declared.packet_layers.Packet.{Packet}

-- a piece after a front
piece : (s front middle rest : List ℕ) (n : ℕ) → s ≡ front ++ (middle ++ rest) → n ≡ length front → take (length middle) (drop n s) ≡ middle
piece s front middle rest n e at =
    ap (λ t. take (length middle) (drop n t)) e ∙ ap (λ m. take (length middle) (drop m (front ++ (middle ++ rest)))) at
    ∙ ap (take (length middle)) (drop-append_seam front (middle ++ rest)) ∙ take-append_seam middle rest

-- an IP packet is its parts one after the other, and what it does not count
parts : (packet : List ℕ) (ip : IpSlice) (h : IpHeaderSlice) → HasPartsWith h packet ip
    → (more : List ℕ) × (packet ≡ header_bytes h ++ (ip.extensions.now ++ (ip.payload.now ++ more)))
parts packet ip (header.Ipv4 view) p =
    let f = ipv4_front p.header packet in (
      f.0,
      f.1 ∙ ap (λ x. x ++ f.0) (p.begins.whole ∙ ap (λ x. x ++ ip.payload.now) p.view) ∙ append_assoc view.slice.now ip.payload.now f.0
          ∙ ap (λ x. view.slice.now ++ (x ++ (ip.payload.now ++ f.0))) (sym p.no_extensions),
    )
parts packet ip (header.Ipv6 view) p =
    let f = ipv6_front p.header packet in (
      f.0,
      f.1 ∙ ap (λ x. x ++ f.0) (p.begins.whole ∙ ap (λ x. x ++ p.body) p.view ∙ ap (λ x. view.slice.now ++ x) p.parts)
          ∙ append_assoc view.slice.now (ip.extensions.now ++ ip.payload.now) f.0 ∙ ap (λ x. view.slice.now ++ x) (append_assoc ip.extensions.now ip.payload.now f.0),
    )

ip_lies : (frame before payload : List ℕ) (ip : IpSlice) (place there : ℕ) → frame ≡ before ++ payload → place ≡ length before → HasIpParts payload ip
    → LiesThere frame ip (ip_parts_in_c place there ip)
ip_lies frame before payload ip place there e at has =
    let p = parts payload ip ip.header has in
    let h = header_bytes ip.header in
    let x = ip.extensions.now in
    let all : frame ≡ before ++ (h ++ (x ++ (ip.payload.now ++ p.0))) = e ∙ ap (λ s. before ++ s) p.1 in
    let after : frame ≡ (before ++ h) ++ (x ++ (ip.payload.now ++ p.0)) = all ∙ sym (append_assoc before h (x ++ (ip.payload.now ++ p.0))) in record {
      header = piece frame before h (x ++ (ip.payload.now ++ p.0)) place all at;
      extensions = piece frame (before ++ h) x (ip.payload.now ++ p.0) (place + length h) after (omega (arith, at, length-append before h));
      payload = piece frame ((before ++ h) ++ x) ip.payload.now p.0 (place + header_len_of ip) (after ∙ sym (append_assoc (before ++ h) x (ip.payload.now ++ p.0)))
          (omega (arith, at, length-append (before ++ h) x, length-append before h));
    }

net_lies : (frame before payload : List ℕ) (net : Option IpSlice) (transport : Option TransportSlice) (stop : Option SliceError) (at_place place there : ℕ) → frame ≡ before ++ payload
    → place ≡ length before → HasNetwork at_place payload net transport stop → IfSome net (λ ip. LiesThere frame ip (net_in_c place there net))
net_lies frame before payload None transport stop at_place place there e at n = tt
net_lies frame before payload (Some ip) transport stop at_place place there e at n = ip_lies frame before payload ip place there e at n.parts.parts

no_net : (frame : List ℕ) (place there : ℕ) (net : Option IpSlice) → net ≡ None → IfSome net (λ ip. LiesThere frame ip (net_in_c place there net))
no_net frame place there net e = subst (λ n. IfSome n (λ ip. LiesThere frame ip (net_in_c place there n))) (sym e) tt

pub lie_there : (link_type : LinkType) (frame : List ℕ) (packet : SlicedPacket) (stop : Option SliceError) (checksums : Bool) (in_c : Packet) → IsFrame link_type frame packet stop
    → IsPacketInC (length frame) checksums packet stop in_c → LieThere frame packet in_c
lie_there link_type frame packet stop checksums in_c f s =
    let payload = packet.payload.now in
    let before = f.begins.front ++ concat (tags_of packet.vlan) in
    let place = length frame - length payload in
    let e : frame ≡ before ++ payload = f.begins.whole ∙ ap (λ x. f.begins.front ++ x) f.layers.tags.whole ∙ sym (append_assoc f.begins.front (concat (tags_of packet.vlan)) payload) in
    let at : place ≡ length before = omega (arith, ap length e, length-append before payload) in
    let net : IfSome packet.net (λ ip. LiesThere frame ip (net_in_c place (length payload) packet.net)) = elim f.layers.ends [
      | inl tag ↦ no_net frame place (length payload) packet.net tag.net
      | inr (inl other) ↦ no_net frame place (length payload) packet.net other.net
      | inr (inr ip) ↦ net_lies frame before payload packet.net packet.transport stop _ place (length payload) e at ip.network
    ] in record {
      payload = ap (λ x. bytes_in x.payload frame) s.link ∙ piece frame before payload [] place (e ∙ ap (λ x. before ++ x) (sym (append-nil payload))) at;
      net = subst (λ x. IfSome packet.net (λ ip. LiesThere frame ip x)) (sym s.ip) net;
    }
