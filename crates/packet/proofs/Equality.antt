-- What the derived `==` of a frame's layers and of their errors says.
use Rattle.std.proofs.Common.{ℕ, ◌≡◌, Bool, Option, None, Some, ap, false, option_map, rules, true}
use Rattle.std.specs.Prelude.{◌↔◌, IsTrue}
use Rattle.std.specs.Option.{option_eq}
use Rattle.std.proofs.lemmas.Bool.Decides.{Decides-eqb, Decides-like}
use Rattle.std.proofs.lemmas.Slice.Eq.{bytes_eq-Decides}
use Rattle.etherparse.specs.declared.err.LenError.{LenError}
use Rattle.etherparse_link.specs.contracts.ether_type.EtherTypePartialEq.TheImpl as type_derived
use Rattle.etherparse_transport.specs.declared.TcpError.{TcpError}
use Rattle.etherparse_transport.specs.declared.TcpError.TheVariants as tcp
use Rattle.packet_parts.specs.IpSlice.{ip_parts}
use Rattle.packet_parts.proofs.Equality.{both_eq, ip_eq, ip_error_eq, optional_eq, present_eq}
use Rattle.packet_parts.specs.contracts.ip_slice.IpSlicePartialEq.TheImpl as ip_derived
use Rattle.packet_parts.specs.declared.ip_slice.IpSliceError.TheVariants as ip_error
use Rattle.packet.specs.Link.{link_parts}
use Rattle.packet.specs.SlicedPacket.{lax_layers, layers_of}
use Rattle.packet.specs.Transport.{transport_parts}
use Rattle.packet.specs.Vlan.{tags_of}
use Rattle.packet.specs.contracts.error.SliceErrorPartialEq.TheImpl as error_derived
use Rattle.packet.specs.contracts.lax_sliced_packet.LaxSlicedPacketPartialEq.TheImpl as lax_derived
use Rattle.packet.specs.contracts.link_layers.LinkLayersPartialEq.TheImpl as layers_derived
use Rattle.packet.specs.contracts.link.LinkSlicePartialEq.TheImpl as link_derived
use Rattle.packet.specs.contracts.sliced_packet.SlicedPacketPartialEq.TheImpl as packet_derived
use Rattle.packet.specs.contracts.transport.TransportSlicePartialEq.TheImpl as transport_derived
use Rattle.packet.specs.contracts.vlan.VlanSlicePartialEq.TheImpl as vlan_derived
use Rattle.packet.specs.declared.error.SliceError.{SliceError}
use Rattle.packet.specs.declared.error.SliceError.TheVariants as error
use Rattle.packet.specs.declared.lax_sliced_packet.LaxSlicedPacket.{LaxSlicedPacket}
use Rattle.packet.specs.declared.link.LinkError.{LinkError}
use Rattle.packet.specs.declared.link.LinkSlice.{LinkSlice}
use Rattle.packet.specs.declared.link_layers.LinkLayers.{LinkLayers}
use Rattle.packet.specs.declared.sliced_packet.SlicedPacket.{SlicedPacket}
use Rattle.packet.specs.declared.transport.TransportSlice.{TransportSlice}
use Rattle.packet.specs.declared.vlan.VlanSlice.{VlanSlice}
use Rattle.packet.specs.declared.vlan.VlanSlice.TheVariants.{DoubleVlan, SingleVlan}

-- the same before what is carried
abbrev pub SameLinkLayers : LinkLayers → LinkLayers → Type 0
SameLinkLayers a b = (option_map link_parts a.link ≡ option_map link_parts b.link) × (tags_of a.vlan ≡ tags_of b.vlan) × (a.ether_type ≡ b.ether_type)
    × (a.payload.now ≡ b.payload.now) × (a.stop ≡ b.stop)

not_true : false ≡ true → ⊥
not_true e = cc

-- an error of a length, as that of a tag is compared
abbrev tag_error_eq : LenError → LenError → Bool
tag_error_eq e f = (error_derived.ghosts).eq (error.Vlan e) (error.Vlan f)

len_eq : (e f : LenError) → IsTrue (tag_error_eq e f) ↔ (e ≡ f)
len_eq e f =
    let same = ip_error_eq (ip_error.Packet e) (ip_error.Packet f) in
    (λ h. let packets = same.0 h in cc, λ h. same.1 (ap ip_error.Packet h))

-- an error of a link header, and of a TCP header
link_error_eq : (e f : LinkError) → IsTrue ((error_derived.ghosts).eq (error.Link e) (error.Link f)) ↔ (e ≡ f)
link_error_eq e f = Decides-like _ (λ h i. record { required_len = h.0 i; len = h.1 i }) (λ h. (λ i. (h i).required_len, λ i. (h i).len))
    (both_eq _ _ (Decides-eqb e.required_len f.required_len) (Decides-eqb e.len f.len))

tcp_error_eq : (e f : TcpError) → IsTrue ((error_derived.ghosts).eq (error.Tcp e) (error.Tcp f)) ↔ (e ≡ f)
tcp_error_eq (tcp.Len e) (tcp.Len f) = (λ h. ap tcp.Len ((len_eq e f).0 h), λ h. (len_eq e f).1 cc)
tcp_error_eq (tcp.DataOffset m) (tcp.DataOffset n) = Decides-like _ (ap tcp.DataOffset) (λ e. cc) (Decides-eqb m n)
tcp_error_eq _ _ = (λ h. absurd (not_true h), λ same. cc)

pub error_eq : (a b : SliceError) → IsTrue ((error_derived.ghosts).eq a b) ↔ (a ≡ b)
error_eq (error.Link e) (error.Link f) = (λ h. ap error.Link ((link_error_eq e f).0 h), λ h. (link_error_eq e f).1 cc)
error_eq (error.Vlan e) (error.Vlan f) = (λ h. ap error.Vlan ((len_eq e f).0 h), λ h. (len_eq e f).1 cc)
error_eq (error.Ip e) (error.Ip f) = (λ h. ap error.Ip ((ip_error_eq e f).0 h), λ h. (ip_error_eq e f).1 cc)
error_eq (error.Udp e) (error.Udp f) = (λ h. ap error.Udp ((len_eq e f).0 h), λ h. (len_eq e f).1 cc)
error_eq (error.Tcp e) (error.Tcp f) = (λ h. ap error.Tcp ((tcp_error_eq e f).0 h), λ h. (tcp_error_eq e f).1 cc)
error_eq (error.Icmp e) (error.Icmp f) = (λ h. ap error.Icmp ((len_eq e f).0 h), λ h. (len_eq e f).1 cc)
error_eq _ _ = (λ h. absurd (not_true h), λ same. cc)

pub link_eq : (a b : LinkSlice) → IsTrue ((link_derived.ghosts).eq a b) ↔ (link_parts a ≡ link_parts b)
link_eq a b = search rules

vlan_eq : (a b : VlanSlice) → IsTrue ((vlan_derived.ghosts).eq a b) ↔ (tags_of (Some a) ≡ tags_of (Some b))
vlan_eq a b = search rules

tags_eq : (a b : Option VlanSlice) → IsTrue (option_eq (vlan_derived.ghosts).eq a b) ↔ (tags_of a ≡ tags_of b)
tags_eq None None = search rules
tags_eq (Some x) (Some y) = vlan_eq x y
tags_eq None (Some (SingleVlan t)) = search rules
tags_eq None (Some (DoubleVlan t u)) = search rules
tags_eq (Some (SingleVlan t)) None = search rules
tags_eq (Some (DoubleVlan t u)) None = search rules

transport_eq : (a b : TransportSlice) → IsTrue ((transport_derived.ghosts).eq a b) ↔ (transport_parts a ≡ transport_parts b)
transport_eq a b = search rules

type_eq : (a b : ℕ) → IsTrue ((type_derived.ghosts).eq a b) ↔ (a ≡ b)
type_eq a b = Decides-eqb a b

pub packet_eq : (a b : SlicedPacket) → IsTrue ((packet_derived.ghosts).eq a b) ↔ (layers_of a ≡ layers_of b)
packet_eq a b =
    let links = optional_eq (link_derived.ghosts).eq link_parts link_eq a.link b.link in
    let tags = tags_eq a.vlan b.vlan in
    let types = present_eq (type_derived.ghosts).eq type_eq a.ether_type b.ether_type in
    let payloads = bytes_eq-Decides a.payload.now b.payload.now in
    let nets = optional_eq (ip_derived.ghosts).eq ip_parts ip_eq a.net b.net in
    let transports = optional_eq (transport_derived.ghosts).eq transport_parts transport_eq a.transport b.transport in
    let all = both_eq _ _ links (both_eq _ _ tags (both_eq _ _ types (both_eq _ _ payloads (both_eq _ _ nets transports)))) in (
      λ h. let same = all.0 h in cc,
      λ h. all.1 (ap (λ l. l.link) h, (ap (λ l. l.tags) h, (ap (λ l. l.ether_type) h, (ap (λ l. l.payload) h, (ap (λ l. l.net) h, ap (λ l. l.transport) h))))),
    )

pub lax_eq : (a b : LaxSlicedPacket) → IsTrue ((lax_derived.ghosts).eq a b) ↔ (lax_layers a ≡ lax_layers b)
lax_eq a b =
    let all = both_eq _ _ (packet_eq a.packet b.packet) (present_eq (error_derived.ghosts).eq error_eq a.stop b.stop) in
    (λ h. let same = all.0 h in cc, λ h. all.1 (ap (λ l. l.0) h, ap (λ l. l.1) h))

pub link_layers_eq : (a b : LinkLayers) → IsTrue ((layers_derived.ghosts).eq a b) ↔ SameLinkLayers a b
link_layers_eq a b =
    let links = optional_eq (link_derived.ghosts).eq link_parts link_eq a.link b.link in
    let tags = tags_eq a.vlan b.vlan in
    let types = present_eq (type_derived.ghosts).eq type_eq a.ether_type b.ether_type in
    let payloads = bytes_eq-Decides a.payload.now b.payload.now in
    let all = both_eq _ _ links (both_eq _ _ tags (both_eq _ _ types (both_eq _ _ payloads (present_eq tag_error_eq len_eq a.stop b.stop)))) in
    (λ h. let same = all.0 h in (same.0, same.1.0, same.1.1.0, same.1.1.1.0, same.1.1.1.1), λ h. all.1 (h.0, (h.1, (h.2, (h.3, h.4)))))
