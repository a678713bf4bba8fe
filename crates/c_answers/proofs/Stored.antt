-- A frame that is stored layer by layer is read as it is stored.
use Rattle.std.proofs.Common.{ℕ, ◌≡◌, ◌≢◌, ◌==◌, ◌+◌, ◌-◌, ◌≤◌, ◌∙◌, ◌++◌, IsFalse, IsTrue, List, [], ◌∷◌, MatchOption, Option, Some, None, Ok, ap, arith, drop, false, inl, inr, is_some, length, length-append, not, option_map, refl, slice_index, subst, sym, take, true}
use Rattle.std.proofs.lemmas.Bool.{ne_eqb}
use Rattle.std.proofs.lemmas.Bool.Decides.{eqb_tells, nat_tests}
use Rattle.std.proofs.lemmas.Grind.{common_steps}
use Rattle.etherparse.proofs.Ipv4Layout.{same_header as ipv4_same_header}
use Rattle.etherparse.specs.ExtensionHeaders.{IsSkippable}
use Rattle.etherparse.specs.Ipv4Header.{IsFragment, IsIpv4Layout, ipv4_payload_len}
use Rattle.etherparse.specs.Ipv6Header.{IsIpv6Layout}
use Rattle.etherparse.specs.Reading.{BeginsWith, HasFront}
use Rattle.etherparse.specs.declared.LenSource.{LenSource}
use Rattle.etherparse.specs.declared.net.ipv4_header.Ipv4Header.{Ipv4Header}
use Rattle.etherparse.specs.declared.net.ipv4_header_slice.Ipv4HeaderSlice.{Ipv4HeaderSlice}
use Rattle.etherparse.specs.declared.net.ipv6_header_slice.Ipv6HeaderSlice.{Ipv6HeaderSlice}
use Rattle.etherparse_link.specs.Bytes.{number_at}
use Rattle.std.specs.Borrow.{Bor}
use Rattle.packet.proofs.Frames.{lax_frame_read}
use Rattle.packet.proofs.WholeHeaders.{icmp_header, icmpv4_found, icmpv6_found}
use Rattle.packet.specs.Link.{link_parts}
use Rattle.packet.specs.SlicedPacket.{HasLinkLayers, IsFrame, IsLaxReadingOf, carries_ip}
use Rattle.packet.specs.Transport.{HasPorts, ReadsHeader, ReadsTransport, TransportReading, missing_in, protocol_of, transport_parts}
use Rattle.packet.specs.Vlan.{AreAllTags, EndsTags}
use Rattle.packet.specs.declared.link.LinkType.{LinkType}
use Rattle.packet.specs.declared.link_layers.LinkLayers.{LinkLayers}
use Rattle.packet.specs.declared.sliced_packet.SlicedPacket.{SlicedPacket}
use Rattle.packet.specs.declared.transport.TransportSlice.{TransportSlice}
use Rattle.packet.specs.declared.transport.TransportSlice.TheVariants as transport
use Rattle.packet_parts.proofs.IpPackets.{ipv6_bytes-told, other-told, whole_4, whole_or_refused}
use Rattle.packet_parts.proofs.IpParts.{cut_front}
use Rattle.packet_parts.specs.Extensions.{EndsAs, at_front}
use Rattle.packet_parts.specs.IpSlice.{HasLaxIpParts, header_len_of, ipv4_fragment_of, ipv6_bytes}
use Rattle.packet_parts.specs.declared.fragment.Fragment.{Fragment}
use Rattle.packet_parts.specs.declared.ip_slice.IpHeaderSlice.{IpHeaderSlice}
use Rattle.packet_parts.specs.declared.ip_slice.IpHeaderSlice.TheVariants as version
use Rattle.packet_parts.specs.declared.ip_slice.IpSlice.{IpSlice}
use Rattle.c_answers.specs.Error.{no_error}
use Rattle.c_answers.specs.Layers.{GetsAnswer, HasTransportInC, IsLaxInC, header_at, icmp_at, ip_in_c, ip_parts_in_c, link_in_c, no_ip, no_transport, with_ports}
use Rattle.c_answers.specs.Private.Stored.{HasNetworkInC, HasOtherInC, HasPortsInC, icmp_over, reads_tcp, reads_udp}
use Rattle.c_answers.specs.declared.packet_layers.Packet.{Packet}
use Rattle.c_answers.specs.declared.packet_layers.PacketIp.{PacketIp}
use Rattle.c_answers.specs.declared.packet_layers.PacketLink.{PacketLink}
use Rattle.c_answers.specs.declared.packet_layers.PacketTransport.{PacketTransport}

-- a header of no fragment says so
no_fragment : (header : Ipv4Header) → ¬ IsFragment header → (None ≡ ipv4_fragment_of header) × (false ≡ not (header.fragment_offset == 0))
no_fragment header whole = (grind (arith, common_steps, nat_tests, whole), grind (arith, common_steps, nat_tests, whole))

-- an IPv4 packet with all its bytes that is no fragment
pub ipv4_parts : (packet : List ℕ) (view : Ipv4HeaderSlice) (f : HasFront IsIpv4Layout packet view.slice.now) (slice : IpSlice) (n : ℕ) → slice.header ≡ version.Ipv4 view → slice.extensions.now ≡ []
    → slice.fragment ≡ None → slice.is_later_fragment ≡ false → slice.upper ≡ f.header.protocol → slice.payload.now ≡ take n f.rest → ipv4_payload_len f.header ≡ Ok n → f.header.total_len ≤ length packet
    → ¬ IsFragment f.header → HasLaxIpParts packet (record { slice = slice; stop = None })
ipv4_parts packet view f slice n of_view extensions fragment later upper payload says enough whole =
    let n_f = no_fragment f.header whole in
    whole_4 packet view f slice slice.payload.now None of_view (λ read begins front. let same = ipv4_same_header read f.header view.slice.now (subst (IsIpv4Layout read) front begins.layout) f.layout in
    rw of_view (record {
      header = read;
      begins = begins;
      view = front;
      no_extensions = extensions;
      fragment = fragment ∙ n_f.0 ∙ ap ipv4_fragment_of (sym same);
      is_later = later ∙ n_f.1 ∙ ap (λ (h : Ipv4Header). not (h.fragment_offset == 0)) (sym same);
      upper = upper ∙ ap (λ (h : Ipv4Header). h.protocol) (sym same);
    })) n payload says enough refl

-- an IPv6 packet with all its bytes whose header no extension header follows
pub ipv6_parts : (packet : List ℕ) (view : Ipv6HeaderSlice) (f : HasFront IsIpv6Layout packet view.slice.now) (slice : IpSlice) → slice.header ≡ version.Ipv6 view → slice.extensions.now ≡ []
    → slice.fragment ≡ None → slice.is_later_fragment ≡ false → slice.upper ≡ f.header.next_header → slice.payload.now ≡ take f.header.payload_length f.rest → f.header.payload_length ≤ length f.rest
    → ¬ IsSkippable slice.upper → HasLaxIpParts packet (record { slice = slice; stop = None })
ipv6_parts packet view f slice of_view extensions fragment later upper payload enough last =
    let told = other-told f.header.payload_length f.header.next_header (rw upper at last) in
    let cut = cut_front packet view.slice.now f.rest f.header.payload_length (40 + f.header.payload_length) f.whole (omega (arith, f.layout.len)) in
    let begins : BeginsWith IsIpv6Layout (ipv6_bytes f.header packet) f.header slice.payload.now =
    record { front = view.slice.now; whole = sym (ipv6_bytes-told f.header packet told) ∙ cut ∙ ap (λ x. view.slice.now ++ x) (sym payload); layout = f.layout } in
    let there : 40 + f.header.payload_length ≤ length packet = omega (arith, enough, f.layout.len, ap length f.whole, length-append {A = ℕ}) in
    let ends : EndsAs slice.is_later_fragment None slice.payload.now f.header.next_header None slice.upper slice.payload.now = rw (later, upper) (at_front, rw upper at last) in
    record {
      parts = rw of_view (record {
        header = f.header;
        body = slice.payload.now;
        begins = begins;
        view = refl;
        parts = ap (λ x. x ++ slice.payload.now) (sym extensions);
        decided = None;
        incomplete = None;
        ends = ends;
        fragment = fragment;
      });
      stop = whole_or_refused packet slice.payload.now view f.header slice None begins refl of_view told there None None refl ends;
    }

-- a header that is there stops nothing, whether in a fragment or not
none_missing : (source : LenSource) (fragment : Option Fragment) (found : TransportSlice) → None ≡ missing_in source fragment (Ok (transport_parts found))
none_missing source None found = refl
none_missing source (Some f) found = refl

-- what is read of a protocol, and the ports there
some_read : {P : Type 0} (o : Option P) (Header Payload : P → Type 0) (Nothing : Type 0) → ((read : P) → Header read → Payload read) → MatchOption o ⊥ Header → MatchOption o Nothing Payload
some_read None Header Payload Nothing then x = absurd x
some_read (Some read) Header Payload Nothing then x = then read x

tcp_read : (slice : IpSlice) (h : IpHeaderSlice) (place : ℕ) (payload : List ℕ) (reading : TransportReading) → slice.header ≡ h → slice.is_later_fragment ≡ false → slice.upper ≡ 6
    → reads_tcp place payload reading → MatchOption (protocol_of slice) ⊥ (λ read. ReadsHeader read place payload reading)
tcp_read slice (version.Ipv4 view) place payload reading is later upper reads = rw (later, is, upper) reads
tcp_read slice (version.Ipv6 view) place payload reading is later upper reads = rw (later, is, upper) reads

udp_read : (slice : IpSlice) (h : IpHeaderSlice) (place : ℕ) (payload : List ℕ) (reading : TransportReading) → slice.header ≡ h → slice.is_later_fragment ≡ false → slice.upper ≡ 17
    → reads_udp place payload reading → MatchOption (protocol_of slice) ⊥ (λ read. ReadsHeader read place payload reading)
udp_read slice (version.Ipv4 view) place payload reading is later upper reads = rw (later, is, upper) reads
udp_read slice (version.Ipv6 view) place payload reading is later upper reads = rw (later, is, upper) reads

tcp_ports : (slice : IpSlice) (h : IpHeaderSlice) → slice.header ≡ h → slice.is_later_fragment ≡ false → slice.upper ≡ 6 → 4 ≤ length slice.payload.now
    → HasPorts slice (number_at 0 slice.payload.now, number_at 2 slice.payload.now)
tcp_ports slice (version.Ipv4 view) is later upper enough = record { protocol = inr (rw (later, is, upper) refl); enough = enough; source = refl; destination = refl }
tcp_ports slice (version.Ipv6 view) is later upper enough = record { protocol = inr (rw (later, is, upper) refl); enough = enough; source = refl; destination = refl }

udp_ports : (slice : IpSlice) (h : IpHeaderSlice) → slice.header ≡ h → slice.is_later_fragment ≡ false → slice.upper ≡ 17 → 4 ≤ length slice.payload.now
    → HasPorts slice (number_at 0 slice.payload.now, number_at 2 slice.payload.now)
udp_ports slice (version.Ipv4 view) is later upper enough = record { protocol = inl (rw (later, is, upper) refl); enough = enough; source = refl; destination = refl }
udp_ports slice (version.Ipv6 view) is later upper enough = record { protocol = inl (rw (later, is, upper) refl); enough = enough; source = refl; destination = refl }

-- a later fragment begins with no header, and a payload of another protocol with none that is read
pub later_protocol : (slice : IpSlice) → slice.is_later_fragment ≡ true → protocol_of slice ≡ None
later_protocol slice later = rw later refl

other_protocol : (slice : IpSlice) (h : IpHeaderSlice) → slice.header ≡ h
    → slice.is_later_fragment ≡ false → slice.upper ≢ 6 → slice.upper ≢ 17
    → slice.upper ≢ icmp_over h → protocol_of slice ≡ None
other_protocol slice (version.Ipv4 view) is later no_tcp no_udp no_icmp =
    let number = slice.upper in
    rw (later, is, ne_eqb number 17 no_udp, ne_eqb number 6 no_tcp, ne_eqb number 1 no_icmp) refl
other_protocol slice (version.Ipv6 view) is later no_tcp no_udp no_icmp =
    let number = slice.upper in
    rw (later, is, ne_eqb number 17 no_udp, ne_eqb number 6 no_tcp, ne_eqb number 58 no_icmp) refl

nothing_read : {P : Type 0} (o : Option P) (Nothing : Type 0) (Payload : P → Type 0) → o ≡ None
    → Nothing → MatchOption o Nothing Payload
nothing_read None Nothing Payload none nothing = nothing
nothing_read (Some read) Nothing Payload none nothing = cc

-- a packet whose payload begins with no header that is read
pub without_header : (place : ℕ) (packet : List ℕ) (slice : IpSlice) (ip_in_c : PacketIp)
    (transport_in_c : PacketTransport)
    → HasLaxIpParts packet (record { slice = slice; stop = None })
    → ip_in_c ≡ ip_parts_in_c place (length packet) slice → protocol_of slice ≡ None
    → transport_in_c ≡ no_transport → HasNetworkInC place packet ip_in_c transport_in_c
without_header place packet slice ip_in_c transport_in_c parts ip_value none value = record {
  slice = slice;
  transport = None;
  network = record {
    ip_stop = None;
    parts = parts;
    missing = None;
    reads = nothing_read (protocol_of slice) _ _ none (refl, refl);
    stops = refl;
  };
  ports = None;
  are_ports = λ ports has. elim has.protocol [ inl udp ↦ cc | inr tcp ↦ cc ];
  ip_value = ip_value;
  transport_value = value;
}

-- the header of a message is its first 4 bytes
same_icmp : (start kind : ℕ) (s : List ℕ) → 4 ≤ length s → icmp_at start kind (slice_index s 0) (slice_index s 1) (drop 4 s)
    ≡ icmp_at start kind (icmp_header s).type_u8 (icmp_header s).code_u8 (drop 4 s)
same_icmp start kind (a ∷ b ∷ c ∷ d ∷ s) enough = refl
same_icmp start kind [] enough = absurd (omega (arith, enough))
same_icmp start kind (a ∷ []) enough = absurd (omega (arith, enough))
same_icmp start kind (a ∷ b ∷ []) enough = absurd (omega (arith, enough))
same_icmp start kind (a ∷ b ∷ c ∷ []) enough = absurd (omega (arith, enough))

module _ (place : ℕ) (packet : List ℕ) (slice : IpSlice) (ip_in_c : PacketIp) (transport_in_c : PacketTransport) (parts : HasLaxIpParts packet (record { slice = slice; stop = None }))
    (ip_value : ip_in_c ≡ ip_parts_in_c place (length packet) slice) (later : slice.is_later_fragment ≡ false) where
  abbrev pub start : ℕ
  start = place + header_len_of slice

  -- a packet with a whole header of a protocol
  with_header : (Reads : TransportReading → Type 0) (header : HasPortsInC Reads start slice.payload.now transport_in_c)
      → MatchOption (protocol_of slice) ⊥ (λ read. ReadsHeader read start slice.payload.now (Ok (transport_parts header.found)))
      → HasPorts slice (number_at 0 slice.payload.now, number_at 2 slice.payload.now) → HasNetworkInC place packet ip_in_c transport_in_c
  with_header Reads header reads has_ports = record {
    slice = slice;
    transport = Some header.found;
    network = record {
      ip_stop = None;
      parts = parts;
      missing = None;
      reads = some_read (protocol_of slice) _ _ _ (λ read r. record { reading = Ok (transport_parts header.found); reads = r; finds = refl; misses = none_missing _ slice.fragment header.found }) reads;
      stops = refl;
    };
    ports = Some (number_at 0 slice.payload.now, number_at 2 slice.payload.now);
    are_ports = has_ports;
    ip_value = ip_value;
    transport_value = header.value;
  }

  pub with_tcp : slice.upper ≡ 6 → HasPortsInC (reads_tcp start slice.payload.now) start slice.payload.now transport_in_c → HasNetworkInC place packet ip_in_c transport_in_c
  with_tcp upper header = with_header (reads_tcp start slice.payload.now) header (tcp_read slice slice.header start slice.payload.now _ refl later upper header.reads)
      (tcp_ports slice slice.header refl later upper header.enough)

  pub with_udp : slice.upper ≡ 17 → HasPortsInC (reads_udp start slice.payload.now) start slice.payload.now transport_in_c → HasNetworkInC place packet ip_in_c transport_in_c
  with_udp upper header = with_header (reads_udp start slice.payload.now) header (udp_read slice slice.header start slice.payload.now _ refl later upper header.reads)
      (udp_ports slice slice.header refl later upper header.enough)

  -- a message of ICMP over IPv4, and of ICMPv6 over IPv6, has no ports
  no_ports_4 : (view : Ipv4HeaderSlice) → slice.header ≡ version.Ipv4 view → slice.upper ≡ 1 → (ports : ℕ × ℕ) → HasPorts slice ports → ⊥
  no_ports_4 view is upper ports has = elim has.protocol [
    | inl udp ↦ let e = rw (later, is, upper) at udp in cc
    | inr tcp ↦ let e = rw (later, is, upper) at tcp in cc
  ]

  no_ports_6 : (view : Ipv6HeaderSlice) → slice.header ≡ version.Ipv6 view → slice.upper ≡ 58 → (ports : ℕ × ℕ) → HasPorts slice ports → ⊥
  no_ports_6 view is upper ports has = elim has.protocol [
    | inl udp ↦ let e = rw (later, is, upper) at udp in cc
    | inr tcp ↦ let e = rw (later, is, upper) at tcp in cc
  ]

  abbrev rest : Bor (List ℕ)
  rest = record { ref_ptr = (0, 0); now = drop 4 slice.payload.now }

  -- the header of a message, without ports
  with_icmp : (found : TransportSlice) → ReadsTransport start slice (Some found) None → ((ports : ℕ × ℕ) → HasPorts slice ports → ⊥)
      → transport_in_c ≡ header_at start (Some found) → HasNetworkInC place packet ip_in_c transport_in_c
  with_icmp found reads none value = record {
    slice = slice;
    transport = Some found;
    network = record { ip_stop = None; parts = parts; missing = None; reads = reads; stops = refl };
    ports = None;
    are_ports = none;
    ip_value = ip_value;
    transport_value = value;
  }

  with_icmpv4 : (view : Ipv4HeaderSlice) → slice.header ≡ version.Ipv4 view → slice.fragment ≡ None → slice.upper ≡ 1 → 4 ≤ length slice.payload.now
      → transport_in_c ≡ icmp_at start 1 (slice_index slice.payload.now 0) (slice_index slice.payload.now 1) (drop 4 slice.payload.now) → HasNetworkInC place packet ip_in_c transport_in_c
  with_icmpv4 view is alone upper enough value = with_icmp (transport.Icmpv4 (icmp_header slice.payload.now) rest) (icmpv4_found start slice view rest later alone upper is enough refl)
      (no_ports_4 view is upper) (value ∙ same_icmp start 1 slice.payload.now enough)

  with_icmpv6 : (view : Ipv6HeaderSlice) → slice.header ≡ version.Ipv6 view → slice.fragment ≡ None → slice.upper ≡ 58 → 4 ≤ length slice.payload.now
      → transport_in_c ≡ icmp_at start 58 (slice_index slice.payload.now 0) (slice_index slice.payload.now 1) (drop 4 slice.payload.now) → HasNetworkInC place packet ip_in_c transport_in_c
  with_icmpv6 view is alone upper enough value = with_icmp (transport.Icmpv6 (icmp_header slice.payload.now) rest) (icmpv6_found start slice view rest later alone upper is enough refl)
      (no_ports_6 view is upper) (value ∙ same_icmp start 58 slice.payload.now enough)

  -- the message of a number that ICMP has over the version of the packet
  message_of : (icmp : ℕ) → slice.upper ≡ icmp
      → HasOtherInC start slice.upper icmp slice.payload.now transport_in_c
      → transport_in_c ≡ icmp_at start icmp (slice_index slice.payload.now 0)
      (slice_index slice.payload.now 1) (drop 4 slice.payload.now)
  message_of icmp upper other =
      let Stores : ℕ → Type 0 = λ kind. transport_in_c ≡ icmp_at start kind
      (slice_index slice.payload.now 0) (slice_index slice.payload.now 1)
      (drop 4 slice.payload.now) in subst Stores upper (other.message upper)

  with_message : (h : IpHeaderSlice) → slice.header ≡ h → slice.fragment ≡ None
      → slice.upper ≡ icmp_over h
      → HasOtherInC start slice.upper (icmp_over h) slice.payload.now transport_in_c
      → HasNetworkInC place packet ip_in_c transport_in_c
  with_message (version.Ipv4 view) is alone upper other =
      with_icmpv4 view is alone upper (other.enough upper) (message_of 1 upper other)
  with_message (version.Ipv6 view) is alone upper other =
      with_icmpv6 view is alone upper (other.enough upper) (message_of 58 upper other)

  -- a packet of another protocol than TCP and UDP
  pub with_other : slice.fragment ≡ None → slice.upper ≢ 6 → slice.upper ≢ 17
      → HasOtherInC start slice.upper (icmp_over slice.header) slice.payload.now transport_in_c
      → HasNetworkInC place packet ip_in_c transport_in_c
  with_other alone no_tcp no_udp other = elim (eqb_tells slice.upper (icmp_over slice.header)) [
    | inl same ↦ with_message slice.header refl alone same.1 other
    | inr differs ↦
        let none = other_protocol slice slice.header refl later no_tcp no_udp differs.1 in
        without_header place packet slice ip_in_c transport_in_c parts ip_value none
        (other.none differs.1)
  ]

-- a whole header, as it is stored
pub has_ports : (Reads : TransportReading → Type 0) (place : ℕ) (payload : List ℕ) (found : TransportSlice) (transport in_c : PacketTransport) → transport ≡ header_at place (Some found)
    → in_c ≡ with_ports (Some (number_at 0 payload, number_at 2 payload)) transport → Reads (Ok (transport_parts found)) → 4 ≤ length payload → HasPortsInC Reads place payload in_c
has_ports Reads place payload found transport in_c at value reads enough =
    record { found = found; reads = reads; enough = enough; value = value ∙ ap (with_ports (Some (number_at 0 payload, number_at 2 payload))) at }

pub none_of : {A : Type 0} (o : Option A) → is_some o ≡ false → o ≡ None
none_of None e = refl
none_of (Some x) e = cc

-- what is stored of a frame without an error and without verdicts
pub record StoresLayers (layers : LinkLayers) (place : ℕ) (in_c : Packet) : Type 0 where
  pub link : (packet : SlicedPacket) → packet.link ≡ layers.link → packet.vlan ≡ layers.vlan → packet.ether_type ≡ layers.ether_type
      → packet.payload.now ≡ layers.payload.now → in_c.link ≡ link_in_c place packet
  pub stops : in_c.stop ≡ no_error
  pub header_checksum : in_c.header_checksum ≡ 0
  pub payload_checksum : in_c.payload_checksum ≡ 0

pub stores : (layers : LinkLayers) (place : ℕ) (in_c : Packet) (link : PacketLink) → in_c.link ≡ link
    → ((packet : SlicedPacket) → packet.link ≡ layers.link → packet.vlan ≡ layers.vlan → packet.ether_type ≡ layers.ether_type
    → packet.payload.now ≡ layers.payload.now → link ≡ link_in_c place packet)
    → in_c.stop ≡ no_error → in_c.header_checksum ≡ 0 → in_c.payload_checksum ≡ 0 → StoresLayers layers place in_c
stores layers place in_c link put made stops header payload = record {
  link = λ packet link vlan ether_type payload. put ∙ made packet link vlan ether_type payload;
  stops = stops;
  header_checksum = header;
  payload_checksum = payload;
}

module _ (link_type : LinkType) (bytes : List ℕ) (layers : LinkLayers) (in_c : Packet) (has : HasLinkLayers link_type bytes layers) (goes_on : layers.stop ≡ None)
    (stored : StoresLayers layers (length bytes - length layers.payload.now) in_c) where
  abbrev pub place : ℕ
  place = length bytes - length layers.payload.now

  abbrev pub packet_with : Option IpSlice → Option TransportSlice → SlicedPacket
  packet_with net transport =
      record { link = layers.link; vlan = layers.vlan; ether_type = layers.ether_type; payload = layers.payload; net = net; transport = transport }

  tags : AreAllTags layers.vlan layers.ether_type
  tags = subst (EndsTags (length bytes) layers.vlan layers.ether_type layers.payload.now) goes_on has.ends

  answer : (net : Option IpSlice) (transport : Option TransportSlice) → IsFrame link_type bytes (packet_with net transport) None → in_c.ip ≡ ip_in_c place (packet_with net transport)
      → HasTransportInC place (packet_with net transport) in_c.transport → GetsAnswer (IsLaxReadingOf link_type bytes) (IsLaxInC (length bytes) false in_c)
  answer net transport is_frame ip has_transport = record {
    answer = Ok (record { packet = packet_with net transport; stop = None });
    allowed = lax_frame_read link_type bytes (Ok (record { packet = packet_with net transport; stop = None })) is_frame;
    in_c = record {
      link = stored.link (packet_with net transport) refl refl refl refl;
      ip = ip;
      transport = has_transport;
      stops = stored.stops;
      header_checksum = stored.header_checksum;
      payload_checksum = stored.payload_checksum;
    };
  }

  -- a frame that carries an IP packet
  pub with_network : IsTrue (carries_ip (option_map link_parts layers.link) layers.ether_type) → HasNetworkInC place layers.payload.now in_c.ip in_c.transport
      → GetsAnswer (IsLaxReadingOf link_type bytes) (IsLaxInC (length bytes) false in_c)
  with_network ip network = answer (Some network.slice) network.transport
      (record {
        ether_type = has.first;
        bytes = has.bytes;
        begins = has.begins;
        layers = record { tags = has.tags; ends = inr (inr (record { tags = tags; ip = ip; network = network.network })) };
      })
      network.ip_value (record { ports = network.ports; are_ports = network.are_ports; value = network.transport_value })

  -- and one that carries another protocol
  pub without_network : IsFalse (carries_ip (option_map link_parts layers.link) layers.ether_type) → in_c.ip ≡ no_ip → in_c.transport ≡ no_transport
      → GetsAnswer (IsLaxReadingOf link_type bytes) (IsLaxInC (length bytes) false in_c)
  without_network other ip transport = answer None None
      (record {
        ether_type = has.first;
        bytes = has.bytes;
        begins = has.begins;
        layers = record { tags = has.tags; ends = inr (inl (record { tags = tags; other = other; goes_on = refl; net = refl; transport = refl })) };
      })
      ip (record { ports = None; are_ports = tt; value = transport })
