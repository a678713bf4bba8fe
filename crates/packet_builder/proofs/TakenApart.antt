-- A packet that was built is read in its layers: they are given, and reading has no other answer.
use Rattle.std.proofs.Common.{ℕ, zero, suc, ◌≡◌, ◌≢◌, ◌==◌, ◌||◌, ◌+◌, ◌-◌, ◌<◌, ◌≤◌, ◌^◌, ◌⊎◌, ◌∙◌, ◌++◌, Bool, Err, IsFalse, IsTrue, List, [], ◌∷◌, None, Ok, Option, Result, Some, ap, append-nil, arith, drop, false, if◌then◌else◌, inl, inr, length, length-append, map, option_map, refl, slice_index, sym, take, true}
use Rattle.std.specs.Prelude.{IsOkAnd, IsSomeAnd}
use Rattle.std.proofs.lemmas.Grind.{common_steps}
use Rattle.std.proofs.lemmas.List.{append_assoc, drop_at, take_all, take_at}
use Rattle.etherparse_transport.proofs.TcpLayout.{from_bool-lt}
use Rattle.std.specs.Borrow.{Bor}
use Rattle.std.specs.Int.{from_be_bytes, to_be_bytes, w16}
use Rattle.std.specs.List.{concat, slice_range}
use Rattle.std.specs.Option.{is_some}
use Rattle.etherparse.proofs.Ipv6Layout.{word_of-layout}
use Rattle.etherparse.proofs.Parts.{words_are_bytes, words_written}
use Rattle.etherparse.specs.ExtensionHeaders.{IsSkippable}
use Rattle.etherparse.specs.Ipv4Header.{IsIpv4LayoutWith}
use Rattle.etherparse.specs.Ipv6Header.{IsIpv6Layout}
use Rattle.etherparse.specs.WordSums.{ones_complement_sum, with_no_zero}
use Rattle.etherparse.specs.declared.net.ipv4_header.Ipv4Header.{Ipv4Header}
use Rattle.etherparse.specs.declared.net.ipv4_header_slice.Ipv4HeaderSlice.{Ipv4HeaderSlice}
use Rattle.etherparse.specs.declared.net.ipv6_header.Ipv6Header.{Ipv6Header}
use Rattle.etherparse.specs.declared.net.ipv6_header_slice.Ipv6HeaderSlice.{Ipv6HeaderSlice}
use Rattle.etherparse_icmp.specs.IcmpChecksum.{IsMessageRight}
use Rattle.etherparse_icmp.specs.Icmpv4.{icmpv4_code_number, icmpv4_len, icmpv4_type_number}
use Rattle.etherparse_icmp.specs.Icmpv6.{IsIcmpv6Written, icmpv6_code_number, icmpv6_type_number}
use Rattle.etherparse_icmp.specs.declared.icmpv4_type.Icmpv4Type.{Icmpv4Type}
use Rattle.etherparse_icmp.specs.declared.icmpv6_type.Icmpv6Type.{Icmpv6Type}
use Rattle.etherparse_link.specs.Bytes.{number_at}
use Rattle.etherparse_link.specs.LinuxSllHeader.{IsLinuxSllLayout}
use Rattle.etherparse_link.specs.declared.linux_sll_header.LinuxSllHeader.{LinuxSllHeader}
use Rattle.etherparse_link.specs.declared.single_vlan_header_slice.SingleVlanHeaderSlice.{SingleVlanHeaderSlice}
use Rattle.etherparse_transport.proofs.TcpReading.{layout_viewed}
use Rattle.etherparse_transport.proofs.UdpLayout.{spelled, words_of-lt}
use Rattle.etherparse_transport.specs.TcpHeader.{IsTcpLayoutWith, tcp_header_len}
use Rattle.etherparse_transport.specs.TransportChecksum.{IsUdpChecksum}
use Rattle.etherparse_transport.specs.Udp.{IsUdpLayout, udp_words}
use Rattle.etherparse_transport.specs.UdpChecksum.{HasUdpBytesWith}
use Rattle.etherparse_transport.specs.declared.tcp.TcpHeaderSlice.{TcpHeaderSlice}
use Rattle.etherparse_transport.specs.declared.tcp_header.TcpHeader.{TcpHeader}
use Rattle.etherparse_transport.specs.declared.udp.UdpHeader.{UdpHeader}
use Rattle.packet.specs.Link.{BeginsWithLink, LinkParts, cooked_ether_type, link_parts}
use Rattle.packet.specs.Network.{HasNetwork}
use Rattle.packet.specs.SlicedPacket.{IsFrame, IsReadingOf, Layers, carries_ip, layers_of}
use Rattle.packet.proofs.WholeHeaders.{icmp_header, icmpv4_found, icmpv6_found, tcp_found, udp_found}
use Rattle.packet.specs.Transport.{Icmpv4Parts, Icmpv6Parts, ReadsTransport, TransportParts, transport_parts}
use Rattle.packet.specs.Vlan.{HasTags, is_tag, tags_of}
use Rattle.packet.specs.declared.error.SliceError.{SliceError}
use Rattle.packet.specs.declared.link.LinkSlice.{LinkSlice}
use Rattle.packet.specs.declared.link.LinkSlice.TheVariants as slice
use Rattle.packet.specs.declared.link.LinkType.{LinkType}
use Rattle.packet.specs.declared.link.LinkType.TheVariants.{LinuxSll}
use Rattle.packet.specs.declared.sliced_packet.SlicedPacket.{SlicedPacket}
use Rattle.packet.specs.declared.transport.TransportSlice.{TransportSlice}
use Rattle.packet.specs.declared.transport.TransportSlice.TheVariants as transport
use Rattle.packet.specs.declared.vlan.VlanSlice.{VlanSlice}
use Rattle.packet.specs.declared.vlan.VlanSlice.TheVariants.{DoubleVlan, SingleVlan}
use Rattle.packet_builder.specs.BuiltPacket.{AreTags, HasHeaders, IsArpFrame, IsIcmpv4Packet, IsIcmpv6ChecksumOver, IsIcmpv6Packet, IsIp, IsIpBefore, IsIpv4, IsIpv4Before, IsIpv6, IsLink, IsTcpChecksumOver, IsTcpPacket, IsUdpChecksumOver, IsUdpPacket, ether_type_of, first_ether_type}
use Rattle.packet_builder.specs.TakenApart.{IsBuiltOfArp, IsBuiltOfIcmpv4, IsBuiltOfIcmpv6, IsBuiltOfTcp, IsBuiltOfUdp, IsNoFragment, TagsAreLinked, ether_type_for, icmp_header_for, ip_header_for, layers_after, layers_for, link_parts_for, link_type_for, tags_for, tells_ether_type}
use Rattle.packet_builder.specs.declared.arp_step.ArpStep.{ArpStep}
use Rattle.packet_builder.specs.declared.headers.Headers.{Headers}
use Rattle.packet_builder.specs.declared.headers.IpHeader.{IpHeader}
use Rattle.packet_builder.specs.declared.headers.IpHeader.TheVariants as ip
use Rattle.packet_builder.specs.declared.headers.LinkHeader.{LinkHeader}
use Rattle.packet_builder.specs.declared.headers.LinkHeader.TheVariants as link
use Rattle.packet_builder.specs.declared.headers.VlanHeader.{VlanHeader}
use Rattle.packet_builder.specs.declared.headers.VlanHeader.TheVariants as vlan
use Rattle.packet_parts.proofs.IpPackets.{ipv4_bytes-told, ipv6_bytes-short, ipv6_packet_len-told, other-told}
use Rattle.packet_parts.proofs.IpParts.{packet_len_4, packet_len_6}
use Rattle.packet_parts.specs.Checksum.{Covers, IsVerdict, IsVerdictOver, IsWithoutChecksum, ipv4_pieces, ipv6_pseudo_header, udp_checksum, udp_length}
use Rattle.packet_parts.specs.Extensions.{at_front}
use Rattle.packet_parts.proofs.FinalDestinations.{goes_somewhere_ipv4}
use Rattle.packet_parts.specs.CoveredAddresses.{stays}
use Rattle.packet_parts.specs.FinalDestination.{GoesToIpv4}
use Rattle.packet_parts.specs.IpSlice.{HasIpParts, IpHeaderParts, IsWhole, header_len_of, header_parts, ip_parts}
use Rattle.packet_parts.specs.declared.checksum.Verdict.TheVariants.{Right}
use Rattle.packet_parts.specs.declared.ip_slice.IpHeaderSlice.{IpHeaderSlice}
use Rattle.packet_parts.specs.declared.ip_slice.IpHeaderSlice.TheVariants as version
use Rattle.packet_parts.specs.declared.ip_slice.IpSlice.{IpSlice}

-- bytes somewhere in memory
abbrev shared : List ℕ → Bor (List ℕ)
shared bytes = record { ref_ptr = (0, 0); now = bytes }

-- ---- the link header

abbrev link_of : (given : Option LinkHeader) (next : ℕ) (bytes : List ℕ) → IsLink given next bytes → Option LinkSlice
link_of None next bytes is = None
link_of (Some (link.Ethernet2 header)) next bytes is = Some (slice.Ethernet2 (record { slice = shared bytes; len = is.len }))
link_of (Some (link.LinuxSll header)) next bytes is = Some (slice.LinuxSll (record { slice = shared bytes; len = is.len }))

-- the EtherType after it
abbrev after : Option LinkHeader → ℕ → Option ℕ
after None next = None
after (Some link) next = Some next

-- a device has an EtherType in each of its headers, or in none
told_by : (b : Bool) (t u : ℕ) → IsTrue (is_some (if b then None else Some t)) → (if b then None else Some u) ≡ Some u
told_by false t u is = refl
told_by true t u is = cc

untold_by : (b : Bool) (t u : ℕ) → IsFalse (is_some (if b then None else Some t)) → (if b then None else Some u) ≡ None
untold_by true t u is = refl
untold_by false t u is = cc

abbrev no_ether_type : ℕ → Bool
no_ether_type arp_hrd_type = arp_hrd_type == 824 || arp_hrd_type == 770 || arp_hrd_type == 803

-- that of a header with these fields
cooked_is : (header : LinuxSllHeader) (next : ℕ) (bytes : List ℕ) → IsLinuxSllLayout (record header { protocol_type = next }) bytes
    → cooked_ether_type (number_at 2 bytes) (number_at 14 bytes) ≡ cooked_ether_type header.arp_hrd_type next
cooked_is header next bytes is = ap (λ a. cooked_ether_type a (number_at 14 bytes)) is.arp_hrd_type ∙ ap (cooked_ether_type header.arp_hrd_type) is.protocol_type

begins_with_link : (given : Option LinkHeader) (next : ℕ) (bytes rest frame : List ℕ) (is : IsLink given next bytes) → frame ≡ bytes ++ rest → IsTrue (tells_ether_type given)
    → BeginsWithLink (link_type_for given) frame (link_of given next bytes is) (after given next) rest
begins_with_link None next bytes rest frame is whole told = record { front = []; whole = whole ∙ ap (λ b. b ++ rest) is; len = refl; header = refl; next = refl }
begins_with_link (Some (link.Ethernet2 header)) next bytes rest frame is whole told =
    record { front = bytes; whole = whole; len = is.len; header = refl; next = ap Some (sym is.ether_type) }
begins_with_link (Some (link.LinuxSll header)) next bytes rest frame is whole told =
    let some = told_by (no_ether_type header.arp_hrd_type) header.protocol_type next told in
    record { front = bytes; whole = whole; len = is.len; header = refl; next = sym (cooked_is header next bytes is ∙ some) }

-- ---- the tags

abbrev tag : (bytes : List ℕ) → length bytes ≡ 4 → SingleVlanHeaderSlice
tag bytes len = record { slice = shared bytes; len = len }

abbrev vlan_of : (given : Option VlanHeader) (next : ℕ) (bytes : List ℕ) → AreTags given next bytes → Option VlanSlice
vlan_of None next bytes are = None
vlan_of (Some (vlan.Single header)) next bytes are = Some (SingleVlan (tag bytes are.len))
vlan_of (Some (vlan.Double outer inner)) next bytes are = Some (DoubleVlan (tag are.first are.is_outer.len) (tag are.second are.is_inner.len))

has_tags : (given : Option VlanHeader) (next : ℕ) (bytes rest s : List ℕ) (are : AreTags given next bytes) → s ≡ bytes ++ rest
    → HasTags (Some (first_ether_type given next)) s (vlan_of given next bytes are) (Some next) rest
has_tags None next bytes rest s are whole = record { tags = refl; whole = whole ∙ ap (λ b. b ++ rest) are }
has_tags (Some (vlan.Single header)) next bytes rest s are whole = record {
  tags = (refl, are.len, ap Some (sym are.ether_type));
  whole = whole ∙ ap (λ b. b ++ rest) (sym (append-nil bytes));
}
has_tags (Some (vlan.Double outer inner)) next bytes rest s are whole = record {
  tags = (refl, are.is_outer.len, (rw are.is_outer.ether_type refl, are.is_inner.len, ap Some (sym are.is_inner.ether_type)));
  whole = whole ∙ ap (λ b. b ++ rest) (are.both ∙ ap (λ b. are.first ++ b) (sym (append-nil are.second)));
}

-- the bytes of each tag
tags_are : (given : Option VlanHeader) (next : ℕ) (bytes : List ℕ) (are : AreTags given next bytes) → tags_of (vlan_of given next bytes are) ≡ tags_for given bytes
tags_are None next bytes are = refl
tags_are (Some (vlan.Single header)) next bytes are = refl
tags_are (Some (vlan.Double outer inner)) next bytes are =
    let first = ap (take 4) are.both ∙ take_at are.first are.second 4 are.is_outer.len in
    let second = ap (drop 4) are.both ∙ drop_at are.first are.second 4 are.is_outer.len in
    cc

-- ---- the IP header

abbrev view_4 : (header : Ipv4Header) (bytes : List ℕ) → IsIpv4LayoutWith header 0 bytes → Ipv4HeaderSlice
view_4 header bytes is =
    let options = is.options_len in
    record {
      slice = shared bytes;
      version = omega (arith, is.version_ihl, options);
      ihl = omega (arith, is.version_ihl, options);
      len = omega (arith, is.version_ihl, is.len, options);
      are_bytes = is.are_bytes;
    }

abbrev view_6 : (header : Ipv6Header) (bytes : List ℕ) → IsIpv6Layout header bytes → Ipv6HeaderSlice
view_6 header bytes is = record { slice = shared bytes; len = is.len; version = (word_of-layout header bytes is).0; are_bytes = is.are_bytes }

abbrev header_of : (made : IpHeader) (bytes : List ℕ) → IsIp made bytes → IpHeaderSlice
header_of (ip.Ipv4 made) bytes is = version.Ipv4 (view_4 made bytes is)
header_of (ip.Ipv6 made) bytes is = version.Ipv6 (view_6 made bytes is)

abbrev net_of : (made : IpHeader) (protocol : ℕ) (bytes upper : List ℕ) → IsIp made bytes → IpSlice
net_of made protocol bytes upper is = record {
  header = header_of made bytes is;
  extensions = shared [];
  fragment = None;
  is_later_fragment = false;
  upper = protocol;
  payload = shared upper;
}

-- it has these parts, and is whole
record IsNet (packet : List ℕ) (net : IpSlice) : Type 0 where
  parts : HasIpParts packet net
  whole : IsWhole packet net

is_net : (given made : IpHeader) (protocol : ℕ) (bytes upper : List ℕ) (is : IsIp made bytes) → IsIpBefore given protocol (length upper) made → IsNoFragment given
    → ¬ IsSkippable protocol → IsNet (bytes ++ upper) (net_of made protocol bytes upper is)
is_net (ip.Ipv4 given) (ip.Ipv4 made) protocol bytes upper is before alone other =
    let all = bytes ++ upper in
    let options = ap (λ h. length h.options) before.fields in
    let total : made.total_len ≡ length all = omega (arith, ap (λ h. h.total_len) before.fields, is.len, options, length-append bytes upper) in
    let some : made.total_len ≢ 0 = λ zero. omega (arith, zero, total, is.len, length-append bytes upper) in
    let more = ap (λ h. h.more_fragments) before.fields ∙ alone.0 in
    let offset = ap (λ h. h.fragment_offset) before.fields ∙ alone.1 in
    let len = packet_len_4 (view_4 made bytes is) made bytes (record { reserved = 0; layout = is }) refl in
    record {
      parts = record {
        header = made;
        begins = record {
          front = bytes;
          whole = sym (ipv4_bytes-told made all some) ∙ take_all made.total_len all (omega (arith, total));
          layout = record { reserved = 0; layout = is };
        };
        view = refl;
        no_extensions = refl;
        fragment = rw (more, offset) refl;
        is_later = rw offset refl;
        upper = sym (ap (λ h. h.protocol) before.fields);
      };
      whole = record { told = λ zero. some (sym len ∙ zero); enough = omega (arith, len, total); headers = tt };
    }
is_net (ip.Ipv6 given) (ip.Ipv6 made) protocol bytes upper is before alone other =
    let all = bytes ++ upper in
    let payload : made.payload_length ≡ length upper = ap (λ h. h.payload_length) before in
    let first : made.next_header ≡ protocol = ap (λ h. h.next_header) before in
    let some = other-told made.payload_length made.next_header (rw (sym first) at other) in
    let len = packet_len_6 (view_6 made bytes is) made bytes is refl ∙ ipv6_packet_len-told made.payload_length made.next_header some in
    record {
      parts = record {
        header = made;
        body = upper;
        begins = record {
          front = bytes;
          whole = ipv6_bytes-short made all (omega (arith, payload, is.len, length-append bytes upper));
          layout = is;
        };
        view = refl;
        parts = refl;
        decided = None;
        incomplete = None;
        ends = rw first (at_front, other);
        fragment = refl;
      };
      whole = record { told = λ zero. omega (arith, len, zero); enough = omega (arith, len, payload, is.len, length-append bytes upper); headers = inr other };
    }
is_net (ip.Ipv4 given) (ip.Ipv6 made) protocol bytes upper is before alone other = elim before [ ]
is_net (ip.Ipv6 given) (ip.Ipv4 made) protocol bytes upper is before alone other = elim before [ ]

-- what follows an EtherType of IP is no tag, and an IP packet
no_tag : (given : IpHeader) → IsFalse (is_tag (Some (ether_type_of given)))
no_tag (ip.Ipv4 given) = refl
no_tag (ip.Ipv6 given) = refl

carries : (given : IpHeader) (link : Option LinkParts) → IsTrue (carries_ip link (Some (ether_type_of given)))
carries (ip.Ipv4 given) link = refl
carries (ip.Ipv6 given) link = refl

-- the header that is made is of the version of the one that was given
same_type : (given made : IpHeader) (protocol len : ℕ) → IsIpBefore given protocol len made → ether_type_of made ≡ ether_type_of given
same_type (ip.Ipv4 given) (ip.Ipv4 made) protocol len before = refl
same_type (ip.Ipv6 given) (ip.Ipv6 made) protocol len before = refl
same_type (ip.Ipv4 given) (ip.Ipv6 made) protocol len before = elim before [ ]
same_type (ip.Ipv6 given) (ip.Ipv4 made) protocol len before = elim before [ ]

-- ---- the frame

module _ (from made : IpHeader) (protocol : ℕ) (ip_bytes upper : List ℕ) (is : IsIp made ip_bytes) (before : IsIpBefore from protocol (length upper) made) (alone : IsNoFragment from)
    (other : ¬ IsSkippable protocol) (found : TransportSlice) (reads : (place : ℕ) → ReadsTransport place (net_of made protocol ip_bytes upper is) (Some found) None) where
  abbrev net : IpSlice
  net = net_of made protocol ip_bytes upper is

  network : (place : ℕ) → HasNetwork place (ip_bytes ++ upper) (Some net) (Some found) None
  network place =
      let parts = is_net from made protocol ip_bytes upper is before alone other in
      record {
        ip_stop = None;
        parts = record { parts = parts.parts; stop = parts.whole };
        missing = None;
        reads = reads (place + header_len_of net);
        stops = refl;
      }

  abbrev packet : (given : Option LinkHeader) (tags : Option VlanHeader) (link_bytes tag_bytes : List ℕ) → IsLink given (first_ether_type tags (ether_type_of made)) link_bytes
      → AreTags tags (ether_type_of made) tag_bytes → SlicedPacket
  packet given tags link_bytes tag_bytes is_link are = record {
    link = link_of given (first_ether_type tags (ether_type_of made)) link_bytes is_link;
    vlan = vlan_of tags (ether_type_of made) tag_bytes are;
    ether_type = ether_type_for given made;
    payload = shared (ip_bytes ++ upper);
    net = Some net;
    transport = Some found;
  }

  frame_is : (given : Option LinkHeader) (tags : Option VlanHeader) (link_bytes tag_bytes frame : List ℕ) (is_link : IsLink given (first_ether_type tags (ether_type_of made)) link_bytes)
      (are : AreTags tags (ether_type_of made) tag_bytes) → frame ≡ link_bytes ++ (tag_bytes ++ (ip_bytes ++ upper)) → (given ≡ None → tags ≡ None)
      → IsTrue (tells_ether_type given) → IsFrame (link_type_for given) frame (packet given tags link_bytes tag_bytes is_link are) None
  frame_is None None link_bytes tag_bytes frame is_link are whole linked told = record {
    ether_type = None;
    bytes = tag_bytes ++ (ip_bytes ++ upper);
    begins = begins_with_link None (ether_type_of made) link_bytes (tag_bytes ++ (ip_bytes ++ upper)) frame is_link whole told;
    layers = record {
      tags = record { tags = refl; whole = ap (λ b. b ++ (ip_bytes ++ upper)) are };
      ends = inr (inr (record { tags = inr refl; ip = refl; network = network (length frame - length (ip_bytes ++ upper)) }));
    };
  }
  frame_is None (Some tag) link_bytes tag_bytes frame is_link are whole linked told = let none = linked refl in cc
  frame_is (Some given) tags link_bytes tag_bytes frame is_link are whole linked told = record {
    ether_type = Some (first_ether_type tags (ether_type_of made));
    bytes = tag_bytes ++ (ip_bytes ++ upper);
    begins = begins_with_link (Some given) (first_ether_type tags (ether_type_of made)) link_bytes (tag_bytes ++ (ip_bytes ++ upper)) frame is_link whole told;
    layers = record {
      tags = has_tags tags (ether_type_of made) tag_bytes (ip_bytes ++ upper) (tag_bytes ++ (ip_bytes ++ upper)) are refl;
      ends = inr (inr (record {
        tags = inr (no_tag made);
        ip = carries made (option_map link_parts (link_of (Some given) (first_ether_type tags (ether_type_of made)) link_bytes is_link));
        network = network (length frame - length (ip_bytes ++ upper));
      }));
    };
  }

-- ---- what is read

ok_same : {A E : Type 0} {x y : A} → ◌≡◌ {A = Result A E} (Ok x) (Ok y) → y ≡ x
ok_same e = cc

not_err : {A E : Type 0} {x : A} {y : E} → ◌≡◌ {A = Result A E} (Ok x) (Err y) → ⊥
not_err e = cc

is_built : (link_type : LinkType) (frame : List ℕ) (p : SlicedPacket) (r : Result SlicedPacket SliceError) → IsReadingOf link_type frame r → IsFrame link_type frame p None
    → IsOkAnd r (λ packet. layers_of packet ≡ layers_of p)
is_built link_type frame p (Ok packet) reading is = ok_same (reading.only (Ok p) is)
is_built link_type frame p (Err e) reading is = not_err (reading.only (Ok p) is)

link_is : (given : Option LinkHeader) (next : ℕ) (bytes : List ℕ) (is : IsLink given next bytes) → option_map link_parts (link_of given next bytes is) ≡ link_parts_for given bytes
link_is None next bytes is = refl
link_is (Some (link.Ethernet2 header)) next bytes is = refl
link_is (Some (link.LinuxSll header)) next bytes is = refl

type_is : (link : Option LinkHeader) (given made : IpHeader) (protocol len : ℕ) → IsIpBefore given protocol len made → ether_type_for link made ≡ ether_type_for link given
type_is None given made protocol len before = refl
type_is (Some link) given made protocol len before = ap Some (same_type given made protocol len before)

header_is : (given made : IpHeader) (protocol len : ℕ) (bytes : List ℕ) (is : IsIp made bytes) → IsIpBefore given protocol len made
    → header_parts (header_of made bytes is) ≡ ip_header_for given bytes
header_is (ip.Ipv4 given) (ip.Ipv4 made) protocol len bytes is before = refl
header_is (ip.Ipv6 given) (ip.Ipv6 made) protocol len bytes is before = refl
header_is (ip.Ipv4 given) (ip.Ipv6 made) protocol len bytes is before = elim before [ ]
header_is (ip.Ipv6 given) (ip.Ipv4 made) protocol len bytes is before = elim before [ ]

-- the verdict on parts
same_over : (g h : IpHeaderSlice) (extensions : List ℕ) (number : ℕ) (payload : List ℕ) → header_parts g ≡ header_parts h → IsVerdictOver g extensions number payload Right
    → IsVerdictOver h extensions number payload Right
same_over (version.Ipv4 v) (version.Ipv4 w) extensions number payload same over = let bytes : v.slice.now ≡ w.slice.now = cc in rw bytes at over
same_over (version.Ipv6 v) (version.Ipv6 w) extensions number payload same over = let bytes : v.slice.now ≡ w.slice.now = cc in rw bytes at over
same_over (version.Ipv4 v) (version.Ipv6 w) extensions number payload same over = cc
same_over (version.Ipv6 v) (version.Ipv4 w) extensions number payload same over = cc

some_same : {A : Type 0} {x y : A} → ◌≡◌ {A = Option A} (Some x) (Some y) → y ≡ x
some_same e = cc

not_none : {A : Type 0} {x : A} → ◌≡◌ {A = Option A} None (Some x) → ⊥
not_none e = cc

is_right : (found : Option IpSlice) (net : IpSlice) → option_map ip_parts found ≡ Some (ip_parts net) → net.fragment ≡ None
    → IsVerdictOver net.header net.extensions.now net.upper net.payload.now Right
    → IsSomeAnd found (λ slice. IsVerdict slice Right)
is_right None net same none over = not_none same
is_right (Some slice) net same none over =
    let parts = some_same same in
    rw (ap (λ x. x.fragment) (sym parts) ∙ none) (same_over net.header slice.header slice.extensions.now slice.upper slice.payload.now (ap (λ x. x.header) parts)
    (rw (ap (λ x. x.extensions) parts, ap (λ x. x.upper) parts, ap (λ x. x.payload) parts) at over))

-- layers that have the same link header, tags, EtherType and IP header
abbrev made_of : List ℕ → ℕ → List ℕ → TransportParts → Option LinkParts → List (List ℕ) → Option ℕ → IpHeaderParts → Layers
made_of payload protocol upper transport link tags ether_type header = record {
  link = link;
  tags = tags;
  ether_type = ether_type;
  payload = payload;
  net = Some (record { header = header; extensions = []; fragment = None; is_later_fragment = false; upper = protocol; payload = upper });
  transport = Some transport;
}

same_layers : (payload : List ℕ) (protocol : ℕ) (upper : List ℕ) (transport : TransportParts) {l m : Option LinkParts} {t u : List (List ℕ)} {e f : Option ℕ} {h k : IpHeaderParts}
    → l ≡ m → t ≡ u → e ≡ f → h ≡ k → made_of payload protocol upper transport l t e h ≡ made_of payload protocol upper transport m u f k
same_layers payload protocol upper transport links tags types headers = rw (links, tags, types, headers) refl

-- a packet with these headers is read in its layers, and its checksum is right
module _ (headers : Headers) (protocol : ℕ) (upper frame : List ℕ) (built : HasHeaders headers protocol upper frame) (alone : IsNoFragment headers.ip) (linked : TagsAreLinked headers)
    (told : IsTrue (tells_ether_type headers.link)) (other : ¬ IsSkippable protocol) (found : TransportSlice)
    (reads : (place : ℕ) → ReadsTransport place (net_of built.ip protocol built.begins.ip upper built.begins.is_ip) (Some found) None)
    (right : IsVerdictOver (header_of built.ip built.begins.ip built.begins.is_ip) [] protocol upper Right) where
  abbrev p : SlicedPacket
  p = packet headers.ip built.ip protocol built.begins.ip upper built.begins.is_ip built.is_ip alone other found reads headers.link headers.vlan built.begins.link
      built.begins.tags built.begins.is_link built.begins.are_tags

  layers_are : layers_of p ≡ layers_for headers protocol upper frame built (transport_parts found)
  layers_are = same_layers (built.begins.ip ++ upper) protocol upper (transport_parts found)
      (link_is headers.link (first_ether_type headers.vlan (ether_type_of built.ip)) built.begins.link built.begins.is_link)
      (tags_are headers.vlan (ether_type_of built.ip) built.begins.tags built.begins.are_tags)
      (type_is headers.link headers.ip built.ip protocol (length upper) built.is_ip)
      (header_is headers.ip built.ip protocol (length upper) built.begins.ip built.begins.is_ip built.is_ip)

  frame_of_p : IsFrame (link_type_for headers.link) frame p None
  frame_of_p = frame_is headers.ip built.ip protocol built.begins.ip upper built.begins.is_ip built.is_ip alone other found reads headers.link headers.vlan built.begins.link
      built.begins.tags frame built.begins.is_link built.begins.are_tags built.begins.whole linked told

  pub is_read_in_layers : (r : Result SlicedPacket SliceError) → IsReadingOf (link_type_for headers.link) frame r
      → IsOkAnd r (λ packet. (layers_of packet ≡ layers_for headers protocol upper frame built (transport_parts found)) × IsSomeAnd packet.net (λ slice. IsVerdict slice Right))
  is_read_in_layers (Ok packet) reading =
      let same = is_built (link_type_for headers.link) frame p (Ok packet) reading frame_of_p in
      (same ∙ layers_are, is_right packet.net (net_of built.ip protocol built.begins.ip upper built.begins.is_ip) (ap (λ l. l.net) same) refl right)
  is_read_in_layers (Err e) reading = is_built (link_type_for headers.link) frame p (Err e) reading frame_of_p

-- ---- UDP

no_zero : (n : ℕ) → with_no_zero n ≢ 0
no_zero zero e = omega (arith, e)
no_zero (suc n) e = omega (arith, e)

-- a datagram is all of its payload, and has a checksum
module _ (udp : UdpHeader) (bytes payload : List ℕ) (l : IsUdpLayout udp bytes) (counts : udp.length ≡ 8 + length payload) where
  len : length (bytes ++ payload) ≡ udp.length
  len = omega (arith, length-append bytes payload, l.len, counts)

  fits : (i : ℕ) → slice_index (udp_words udp) i < 2 ^ 16
  fits i = rw (sym (ap (λ ws. slice_index ws i) l.words)) (words_of-lt bytes l.are_bytes i)

  length_is : udp_length (bytes ++ payload) ≡ udp.length
  length_is = rw (spelled udp bytes l) (omega (arith, fits 2))

  checksum_is : udp_checksum (bytes ++ payload) ≡ udp.checksum
  checksum_is = rw (spelled udp bytes l) (omega (arith, fits 3))

  pub covers_udp : (icmp : ℕ) → Covers icmp 17 (bytes ++ payload) (bytes ++ payload)
  covers_udp icmp = inl (refl, (omega (arith, length_is, counts), omega (arith, length_is, len), sym (take_all _ (bytes ++ payload) (omega (arith, length_is, len)))))

  -- the same header with no checksum
  abbrev zeroed : UdpHeader
  zeroed = record udp { checksum = 0 }

  fits_zeroed : (i : ℕ) → slice_index (udp_words zeroed) i < 2 ^ 16
  fits_zeroed zero = fits 0
  fits_zeroed (suc zero) = fits 1
  fits_zeroed (suc (suc zero)) = fits 2
  fits_zeroed (suc (suc (suc zero))) = omega arith
  fits_zeroed (suc (suc (suc (suc i)))) = omega arith

  layout_zeroed : IsUdpLayout zeroed (concat (map (λ n. to_be_bytes w16 n) (udp_words zeroed)))
  layout_zeroed = record { len = refl; are_bytes = words_are_bytes (udp_words zeroed); words = words_written (udp_words zeroed) fits_zeroed }

  pub has_checksum : (pseudo_header : List ℕ) → IsUdpChecksum (HasUdpBytesWith udp) pseudo_header payload udp.checksum → ¬ IsWithoutChecksum 17 (bytes ++ payload)
  has_checksum pseudo_header is none = no_zero _ (sym (is.value _ layout_zeroed) ∙ sym checksum_is ∙ none.1)

-- an IP header counts in 16 bits what follows it
counted_4 : (given made : Ipv4Header) (protocol len : ℕ) (bytes : List ℕ) → IsIpv4Before given protocol len made → IsIpv4LayoutWith made 0 bytes → len < 2 ^ 16
counted_4 given made protocol len bytes before is =
    let total : made.total_len < 2 ^ 16 = grind (arith, common_steps, is.are_bytes 2, is.are_bytes 3) in
    omega (arith, total, ap (λ h. h.total_len) before.fields)

counted_6 : (made : Ipv6Header) (bytes : List ℕ) → IsIpv6Layout made bytes → made.payload_length < 2 ^ 16
counted_6 made bytes is = grind (arith, common_steps, is.are_bytes 4, is.are_bytes 5)

-- a segment sums to all ones with the pseudo-header between the source and the final destination
abbrev SumsRight : ℕ → List ℕ → IpHeader → Type 0
SumsRight protocol upper (ip.Ipv4 h) = (final : List ℕ) × GoesToIpv4 h.destination h.options final × (ones_complement_sum (ipv4_pieces h.source final protocol upper) ≡ 65535)
SumsRight protocol upper (ip.Ipv6 h) = ones_complement_sum (ipv6_pseudo_header h.source h.destination protocol (length upper) ∷ upper ∷ []) ≡ 65535

-- the number of ICMP over an IP header
abbrev icmp_over : IpHeader → ℕ
icmp_over (ip.Ipv4 h) = 1
icmp_over (ip.Ipv6 h) = 58

-- a segment that a checksum covers is no extension header
covered_is_no_extension : (protocol : ℕ) (upper : List ℕ) → Covers 58 protocol upper upper → ¬ IsSkippable protocol
covered_is_no_extension protocol upper (inl (is, _)) skippable = omega (arith, is, skippable)
covered_is_no_extension protocol upper (inr (inl (is, _, _))) skippable = omega (arith, is, skippable)
covered_is_no_extension protocol upper (inr (inr (is, _, _))) skippable = omega (arith, is, skippable)

-- a segment that is covered whole and sums to all ones is found right
found_right : (given made : IpHeader) (protocol : ℕ) (ip_bytes upper : List ℕ) (is : IsIp made ip_bytes) → IsIpBefore given protocol (length upper) made
    → Covers (icmp_over given) protocol upper upper → ¬ IsWithoutChecksum protocol upper → SumsRight protocol upper given
    → IsVerdictOver (header_of made ip_bytes is) [] protocol upper Right
found_right (ip.Ipv4 given) (ip.Ipv4 made) protocol ip_bytes upper is before covers there (final, goes, sums) =
    let source = is.source ∙ ap (λ h. h.source) before.fields in
    let destination = is.destination ∙ ap (λ h. h.destination) before.fields in
    let options = is.options ∙ ap (λ h. h.options) before.fields in (
      final,
      rw (destination, options) goes,
      (
        upper,
        record { covers = covers; there = there },
        record {
          fits = λ _. counted_4 given made protocol (length upper) ip_bytes before is;
          sum = rw source sums;
        },
      ),
    )
found_right (ip.Ipv6 given) (ip.Ipv6 made) protocol ip_bytes upper is before covers there sums =
    let source = is.source ∙ ap (λ h. h.source) before in
    let destination = is.destination ∙ ap (λ h. h.destination) before in
    let next = is.next_header ∙ ap (λ h. h.next_header) before in (
      Some (slice_range ip_bytes 8 24),
      Some (slice_range ip_bytes 24 40),
      stays (λ skippable. covered_is_no_extension protocol upper covers (rw next at skippable)),
      stays (λ skippable. covered_is_no_extension protocol upper covers (rw next at skippable)),
      (
        upper,
        covers,
        record {
          there = there;
          fits = omega (arith, counted_6 made ip_bytes is, ap (λ h. h.payload_length) before);
          sum = rw (source, destination) sums;
        },
      ),
    )
found_right (ip.Ipv4 given) (ip.Ipv6 made) protocol ip_bytes upper is before covers there sums = elim before [ ]
found_right (ip.Ipv6 given) (ip.Ipv4 made) protocol ip_bytes upper is before covers there sums = elim before [ ]

udp_sums : (given : IpHeader) (udp : UdpHeader) (bytes payload : List ℕ) → IsUdpLayout udp bytes → length (bytes ++ payload) ≡ udp.length
    → IsUdpChecksumOver given udp payload udp.checksum → SumsRight 17 (bytes ++ payload) given
udp_sums (ip.Ipv4 given) udp bytes payload l len (final, goes, is) = (final, goes, rw len (is.right bytes l))
udp_sums (ip.Ipv6 given) udp bytes payload l len is = rw len (is.right bytes l)

udp_there : (given : IpHeader) (udp : UdpHeader) (bytes payload : List ℕ) → IsUdpLayout udp bytes → udp.length ≡ 8 + length payload
    → IsUdpChecksumOver given udp payload udp.checksum → ¬ IsWithoutChecksum 17 (bytes ++ payload)
udp_there (ip.Ipv4 given) udp bytes payload l counts (final, goes, is) = has_checksum udp bytes payload l counts _ is
udp_there (ip.Ipv6 given) udp bytes payload l counts is = has_checksum udp bytes payload l counts _ is

no_extension : (number : ℕ) → (number ≡ 17) ⊎ (number ≡ 6) ⊎ (number ≡ 1) ⊎ (number ≡ 58) → ¬ IsSkippable number
no_extension number is skippable = omega (arith, is, skippable)

okay : {A E : Type 0} {P Q : A → Type 0} (r : Result A E) → IsOkAnd r P → ((x : A) → P x → Q x) → IsOkAnd r Q
okay (Ok x) p on = on x p
okay (Err e) p on = p

pub udp_read : (headers : Headers) (source_port destination_port : ℕ) (payload frame : List ℕ) → IsUdpPacket headers source_port destination_port payload frame
    → IsNoFragment headers.ip → TagsAreLinked headers → IsTrue (tells_ether_type headers.link) → (r : Result SlicedPacket SliceError) → IsReadingOf (link_type_for headers.link) frame r
    → IsOkAnd r (IsBuiltOfUdp headers source_port destination_port payload frame)
udp_read headers source_port destination_port payload frame built alone linked told r reading =
    let has = built.has_headers in
    let counts = ap (λ h. h.length) built.is_udp.fields in
    let whole = len built.udp built.bytes payload built.layout counts in
    let right = found_right headers.ip has.ip 17 has.begins.ip (built.bytes ++ payload) has.begins.is_ip has.is_ip (covers_udp built.udp built.bytes payload built.layout counts (icmp_over headers.ip))
    (udp_there headers.ip built.udp built.bytes payload built.layout counts built.is_udp.checksum)
    (udp_sums headers.ip built.udp built.bytes payload built.layout whole built.is_udp.checksum) in
    okay r (is_read_in_layers headers 17 (built.bytes ++ payload) frame has alone linked told (no_extension 17 (inl refl)) (transport.Udp built.udp (shared payload))
    (λ place. udp_found place (net_of has.ip 17 has.begins.ip (built.bytes ++ payload) has.begins.is_ip) built.udp built.bytes (shared payload) refl refl refl refl built.layout) right r reading)
    (λ packet both. record { built = built; layers = both.0; right = both.1 })

-- ---- TCP

abbrev tcp_view : (tcp : TcpHeader) (bytes : List ℕ) → IsTcpLayoutWith tcp 0 bytes → TcpHeaderSlice
tcp_view tcp bytes l =
    let options = l.options_len in
    let ns = from_bool-lt tcp.ns in
    record {
      slice = shared bytes;
      offset = omega (arith, l.data_offset_ns, options, ns);
      len = omega (arith, l.data_offset_ns, l.len, options, ns);
      are_bytes = l.are_bytes;
    }

tcp_sums : (given : IpHeader) (tcp : TcpHeader) (bytes payload : List ℕ) → IsTcpLayoutWith tcp 0 bytes → length (bytes ++ payload) ≡ tcp_header_len tcp + length payload
    → IsTcpChecksumOver given tcp payload tcp.checksum → SumsRight 6 (bytes ++ payload) given
tcp_sums (ip.Ipv4 given) tcp bytes payload l len (final, goes, is) = (final, goes, rw len (is.right bytes l))
tcp_sums (ip.Ipv6 given) tcp bytes payload l len is = rw len (is.right bytes l)

pub tcp_read : (headers : Headers) (header : TcpHeader) (payload frame : List ℕ) → IsTcpPacket headers header payload frame → IsNoFragment headers.ip → TagsAreLinked headers
    → IsTrue (tells_ether_type headers.link) → (r : Result SlicedPacket SliceError) → IsReadingOf (link_type_for headers.link) frame r → IsOkAnd r (IsBuiltOfTcp headers header payload frame)
tcp_read headers header payload frame built alone linked told r reading =
    let has = built.has_headers in
    let bytes = built.bytes in
    let whole : length (bytes ++ payload) ≡ tcp_header_len built.tcp + length payload = omega (arith, length-append bytes payload, built.layout.len) in
    let enough : 20 ≤ length (bytes ++ payload) = omega (arith, whole) in
    let right = found_right headers.ip has.ip 6 has.begins.ip (bytes ++ payload) has.begins.is_ip has.is_ip (inr (inl (refl, enough, refl))) (λ none. omega (arith, none.0))
    (tcp_sums headers.ip built.tcp bytes payload built.layout whole built.is_tcp.checksum) in
    okay r (is_read_in_layers headers 6 (bytes ++ payload) frame has alone linked told (no_extension 6 (inr (inl refl))) (transport.Tcp (tcp_view built.tcp bytes built.layout) (shared payload))
    (λ place. tcp_found place (net_of has.ip 6 has.begins.ip (bytes ++ payload) has.begins.is_ip) (tcp_view built.tcp bytes built.layout) (shared payload) refl refl refl refl
    (layout_viewed built.tcp 0 bytes payload built.layout)) right r reading)
    (λ packet both. record { built = built; layers = both.0; right = both.1 })

-- ---- ICMP

icmp_header_is : (bytes payload : List ℕ) → 4 ≤ length bytes
    → icmp_header (bytes ++ payload) ≡ icmp_header_for (slice_index bytes 0) (slice_index bytes 1) (from_be_bytes w16 (slice_range bytes 2 4))
icmp_header_is (a ∷ b ∷ c ∷ d ∷ s) payload enough = refl
icmp_header_is [] payload enough = absurd (omega (arith, enough))
icmp_header_is (a ∷ []) payload enough = absurd (omega (arith, enough))
icmp_header_is (a ∷ b ∷ []) payload enough = absurd (omega (arith, enough))
icmp_header_is (a ∷ b ∷ c ∷ []) payload enough = absurd (omega (arith, enough))

after_icmp_header : (bytes payload : List ℕ) → 4 ≤ length bytes → drop 4 (bytes ++ payload) ≡ drop 4 bytes ++ payload
after_icmp_header (a ∷ b ∷ c ∷ d ∷ s) payload enough = refl
after_icmp_header [] payload enough = absurd (omega (arith, enough))
after_icmp_header (a ∷ []) payload enough = absurd (omega (arith, enough))
after_icmp_header (a ∷ b ∷ []) payload enough = absurd (omega (arith, enough))
after_icmp_header (a ∷ b ∷ c ∷ []) payload enough = absurd (omega (arith, enough))

icmpv4_long : (t : Icmpv4Type) → 4 ≤ icmpv4_len t
icmpv4_long t = grind arith

view_over_4 : (given made : IpHeader) (protocol len : ℕ) (bytes : List ℕ) (is : IsIp made bytes) → IsIpBefore given protocol len made → IsIpv4 given
    → (view : Ipv4HeaderSlice) × (header_of made bytes is ≡ version.Ipv4 view)
view_over_4 (ip.Ipv4 given) (ip.Ipv4 made) protocol n bytes is before over = (view_4 made bytes is, refl)
view_over_4 (ip.Ipv4 given) (ip.Ipv6 made) protocol n bytes is before over = elim before [ ]
view_over_4 (ip.Ipv6 given) made protocol n bytes is before over = elim over [ ]

view_over_6 : (given made : IpHeader) (protocol len : ℕ) (bytes : List ℕ) (is : IsIp made bytes) → IsIpBefore given protocol len made → IsIpv6 given
    → (view : Ipv6HeaderSlice) × (header_of made bytes is ≡ version.Ipv6 view)
view_over_6 (ip.Ipv6 given) (ip.Ipv6 made) protocol n bytes is before over = (view_6 made bytes is, refl)
view_over_6 (ip.Ipv6 given) (ip.Ipv4 made) protocol n bytes is before over = elim before [ ]
view_over_6 (ip.Ipv4 given) made protocol n bytes is before over = elim over [ ]

icmpv4_sums : (given : IpHeader) (upper : List ℕ) → IsIpv4 given → IsMessageRight [] upper → SumsRight 1 upper given
icmpv4_sums (ip.Ipv4 given) upper over right =
    let goes = goes_somewhere_ipv4 given.destination given.options in (goes.0, goes.1, right)
icmpv4_sums (ip.Ipv6 given) upper over right = elim over [ ]

icmpv4_covers : (given : IpHeader) (upper : List ℕ) → IsIpv4 given → 4 ≤ length upper → Covers (icmp_over given) 1 upper upper
icmpv4_covers (ip.Ipv4 given) upper over enough = inr (inr (refl, enough, refl))
icmpv4_covers (ip.Ipv6 given) upper over enough = elim over [ ]

pub icmpv4_read : (headers : Headers) (icmp_type : Icmpv4Type) (payload frame : List ℕ) → IsIcmpv4Packet headers icmp_type payload frame → IsIpv4 headers.ip → IsNoFragment headers.ip
    → TagsAreLinked headers → IsTrue (tells_ether_type headers.link) → (r : Result SlicedPacket SliceError) → IsReadingOf (link_type_for headers.link) frame r → IsOkAnd r (IsBuiltOfIcmpv4 headers icmp_type payload frame)
icmpv4_read headers icmp_type payload frame built over alone linked told r reading =
    let has = built.has_headers in
    let bytes = built.bytes in
    let layout = built.written.layout in
    let long : 4 ≤ length bytes = omega (arith, layout.len, icmpv4_long icmp_type) in
    let enough : 4 ≤ length (bytes ++ payload) = omega (arith, long, length-append bytes payload) in
    let view = view_over_4 headers.ip has.ip 1 (length (bytes ++ payload)) has.begins.ip has.begins.is_ip has.is_ip over in
    let right = found_right headers.ip has.ip 1 has.begins.ip (bytes ++ payload) has.begins.is_ip has.is_ip (icmpv4_covers headers.ip (bytes ++ payload) over enough) (λ none. omega (arith, none.0))
    (icmpv4_sums headers.ip (bytes ++ payload) over (built.is_checksum.right bytes built.written)) in
    let header : icmp_header (bytes ++ payload) ≡ icmp_header_for (icmpv4_type_number icmp_type) (icmpv4_code_number icmp_type) built.checksum =
    icmp_header_is bytes payload long ∙ rw (sym layout.says.type_is, sym layout.says.code_is, layout.checksum_is) refl in
    let parts : Icmpv4Parts (icmp_header (bytes ++ payload)) (drop 4 (bytes ++ payload))
    ≡ Icmpv4Parts (icmp_header_for (icmpv4_type_number icmp_type) (icmpv4_code_number icmp_type) built.checksum) (drop 4 bytes ++ payload) =
    rw (header, after_icmp_header bytes payload long) refl in
    okay r (is_read_in_layers headers 1 (bytes ++ payload) frame has alone linked told (no_extension 1 (inr (inr (inl refl)))) (transport.Icmpv4 (icmp_header (bytes ++ payload)) (shared (drop 4 (bytes ++ payload))))
    (λ place. icmpv4_found place (net_of has.ip 1 has.begins.ip (bytes ++ payload) has.begins.is_ip) view.0 (shared (drop 4 (bytes ++ payload))) refl refl refl view.1 enough refl) right r reading)
    (λ packet both. record { built = built; layers = both.0 ∙ ap (layers_for headers 1 (bytes ++ payload) frame has) parts; right = both.1 })

no_fragment_6 : (given : IpHeader) → IsIpv6 given → IsNoFragment given
no_fragment_6 (ip.Ipv6 given) over = tt
no_fragment_6 (ip.Ipv4 given) over = elim over [ ]

over_ipv6 : (given : IpHeader) (icmp_type : Icmpv6Type) (payload : List ℕ) (checksum : ℕ) → IsIcmpv6ChecksumOver given icmp_type payload checksum → IsIpv6 given
over_ipv6 (ip.Ipv6 given) icmp_type payload checksum is = tt
over_ipv6 (ip.Ipv4 given) icmp_type payload checksum is = elim is [ ]

icmpv6_sums : (given : IpHeader) (icmp_type : Icmpv6Type) (bytes payload : List ℕ) (checksum : ℕ) → IsIcmpv6ChecksumOver given icmp_type payload checksum
    → IsIcmpv6Written icmp_type checksum bytes → SumsRight 58 (bytes ++ payload) given
icmpv6_sums (ip.Ipv6 given) icmp_type bytes payload checksum is written =
    let whole : length (bytes ++ payload) ≡ 8 + length payload = omega (arith, written.layout.len, length-append bytes payload) in
    rw whole (is.right bytes written)
icmpv6_sums (ip.Ipv4 given) icmp_type bytes payload checksum is written = elim is [ ]

icmpv6_covers : (given : IpHeader) (upper : List ℕ) → IsIpv6 given → 4 ≤ length upper → Covers (icmp_over given) 58 upper upper
icmpv6_covers (ip.Ipv6 given) upper over enough = inr (inr (refl, enough, refl))
icmpv6_covers (ip.Ipv4 given) upper over enough = elim over [ ]

pub icmpv6_read : (headers : Headers) (icmp_type : Icmpv6Type) (payload frame : List ℕ) → IsIcmpv6Packet headers icmp_type payload frame → TagsAreLinked headers
    → IsTrue (tells_ether_type headers.link) → (r : Result SlicedPacket SliceError) → IsReadingOf (link_type_for headers.link) frame r → IsOkAnd r (IsBuiltOfIcmpv6 headers icmp_type payload frame)
icmpv6_read headers icmp_type payload frame built linked told r reading =
    let has = built.has_headers in
    let bytes = built.bytes in
    let layout = built.written.layout in
    let over = over_ipv6 headers.ip icmp_type payload built.checksum built.is_checksum in
    let long : 4 ≤ length bytes = omega (arith, layout.len) in
    let enough : 4 ≤ length (bytes ++ payload) = omega (arith, long, length-append bytes payload) in
    let view = view_over_6 headers.ip has.ip 58 (length (bytes ++ payload)) has.begins.ip has.begins.is_ip has.is_ip over in
    let right = found_right headers.ip has.ip 58 has.begins.ip (bytes ++ payload) has.begins.is_ip has.is_ip (icmpv6_covers headers.ip (bytes ++ payload) over enough) (λ none. omega (arith, none.0))
    (icmpv6_sums headers.ip icmp_type bytes payload built.checksum built.is_checksum built.written) in
    let header : icmp_header (bytes ++ payload) ≡ icmp_header_for (icmpv6_type_number icmp_type) (icmpv6_code_number icmp_type) built.checksum =
    icmp_header_is bytes payload long ∙ rw (sym layout.says.type_is, sym layout.says.code_is, layout.checksum_is) refl in
    let parts : Icmpv6Parts (icmp_header (bytes ++ payload)) (drop 4 (bytes ++ payload))
    ≡ Icmpv6Parts (icmp_header_for (icmpv6_type_number icmp_type) (icmpv6_code_number icmp_type) built.checksum) (drop 4 bytes ++ payload) =
    rw (header, after_icmp_header bytes payload long) refl in
    okay r (is_read_in_layers headers 58 (bytes ++ payload) frame has (no_fragment_6 headers.ip over) linked told (no_extension 58 (inr (inr (inr refl)))) (transport.Icmpv6 (icmp_header (bytes ++ payload)) (shared (drop 4 (bytes ++ payload))))
    (λ place. icmpv6_found place (net_of has.ip 58 has.begins.ip (bytes ++ payload) has.begins.is_ip) view.0 (shared (drop 4 (bytes ++ payload))) refl refl refl view.1 enough refl) right r reading)
    (λ packet both. record { built = built; layers = both.0 ∙ ap (layers_for headers 58 (bytes ++ payload) frame has) parts; right = both.1 })

-- ---- ARP

pub arp_read : (step : ArpStep) (frame : List ℕ) → IsArpFrame step frame → IsTrue (tells_ether_type (Some step.link)) → (r : Result SlicedPacket SliceError)
    → IsReadingOf (link_type_for (Some step.link)) frame r → IsOkAnd r (IsBuiltOfArp step frame)
arp_read step frame built told r reading =
    let before = built.are_before in
    let next = first_ether_type step.vlan 0x0806 in
    let p : SlicedPacket = record {
      link = link_of (Some step.link) next before.first before.is_link;
      vlan = vlan_of step.vlan 0x0806 before.tags before.are_tags;
      ether_type = Some 0x0806;
      payload = shared built.arp;
      net = None;
      transport = None;
    } in
    let whole = built.whole ∙ ap (λ b. b ++ built.arp) before.both ∙ append_assoc before.first before.tags built.arp in
    let is : IsFrame (link_type_for (Some step.link)) frame p None = record {
      ether_type = Some next;
      bytes = before.tags ++ built.arp;
      begins = begins_with_link (Some step.link) next before.first (before.tags ++ built.arp) frame before.is_link whole told;
      layers = record {
        tags = has_tags step.vlan 0x0806 before.tags built.arp (before.tags ++ built.arp) before.are_tags refl;
        ends = inr (inl (record { tags = inr refl; other = refl; goes_on = refl; net = refl; transport = refl }));
      };
    } in
    let links = link_is (Some step.link) next before.first before.is_link in
    let tags = tags_are step.vlan 0x0806 before.tags before.are_tags in
    okay r (is_built (link_type_for (Some step.link)) frame p r reading is) (λ packet same. record { built = built; layers = same ∙ rw (links, tags) refl })

-- ---- another device

pub other_device_read : (given : LinkHeader) (next : ℕ) (bytes rest : List ℕ) → IsLink (Some given) next bytes → IsFalse (tells_ether_type (Some given))
    → (r : Result SlicedPacket SliceError) → IsReadingOf (link_type_for (Some given)) (bytes ++ rest) r
    → IsOkAnd r (λ packet. layers_of packet ≡ layers_after (link_parts_for (Some given) bytes) rest)
other_device_read (link.Ethernet2 header) next bytes rest is untold r reading = cc
other_device_read (link.LinuxSll header) next bytes rest is untold r reading =
    let none = untold_by (no_ether_type header.arp_hrd_type) header.protocol_type next untold in
    let p : SlicedPacket = record {
      link = link_of (Some (link.LinuxSll header)) next bytes is;
      vlan = None;
      ether_type = None;
      payload = shared rest;
      net = None;
      transport = None;
    } in
    let is_frame : IsFrame LinuxSll (bytes ++ rest) p None = record {
      ether_type = None;
      bytes = rest;
      begins = record { front = bytes; whole = refl; len = is.len; header = refl; next = sym (cooked_is header next bytes is ∙ none) };
      layers = record {
        tags = record { tags = refl; whole = refl };
        ends = inr (inl (record { tags = inr refl; other = refl; goes_on = refl; net = refl; transport = refl }));
      };
    } in
    is_built LinuxSll (bytes ++ rest) p r reading is_frame
