-- Whatever the bytes of a payload are, it has a transport header, or it has none.
use Rattle.std.proofs.Common.{ℕ, ◌≡◌, ◌-◌, ◌*◌, ◌/◌, ap, List, [], ◌∷◌, Bool, true, false, ◌==◌, if◌then◌else◌, Option, Some, None, MatchOption, Result, Ok, Err, arith, drop, inl, inr, length, length-take, option_map, refl, sym, take, w16}
use Rattle.std.proofs.lemmas.Bool.{cases_lt}
use Rattle.std.proofs.lemmas.List.{get_or-take, take-append-drop}
use Rattle.std.specs.Borrow.{Bor}
use Rattle.std.specs.Int.{from_be_bytes}
use Rattle.std.specs.Prelude.{slice_index}
use Rattle.std.specs.Result.{result_err, result_ok}
use Rattle.etherparse.proofs.Parts.{part_is_bytes}
use Rattle.etherparse.specs.Bytes.{IsBytes, words_of}
use Rattle.etherparse.specs.Reading.{IsTooShort, Reads, too_short_error}
use Rattle.etherparse.specs.declared.LenSource.{LenSource}
use Rattle.etherparse.specs.declared.err.LenError.{LenError}
use Rattle.etherparse.specs.declared.err.Layer.{Layer}
use Rattle.etherparse.specs.declared.err.Layer.TheVariants as layer
use Rattle.etherparse_link.specs.Bytes.{number_at}
use Rattle.packet.specs.Error.{error_by}
use Rattle.packet.specs.Transport.{Icmpv4Parts, Icmpv6Parts, IsIcmpLayout, ReadsPayload, ReadsTransport, TransportReading, icmp_reading, missing_in, protocol_of, protocol_over, tcp_reading, transport_parts, udp_reading}
use Rattle.packet.specs.declared.error.SliceError.{SliceError}
use Rattle.packet.specs.declared.error.SliceError.TheVariants as error
use Rattle.packet.specs.declared.transport.IcmpHeader.{IcmpHeader}
use Rattle.packet.specs.declared.transport.TransportSlice.{TransportSlice}
use Rattle.packet.specs.declared.transport.TransportSlice.TheVariants as transport
use Rattle.packet_filter.specs.Private.Front.{is_in_ip}
use Rattle.etherparse_transport.specs.Tcp.{ViewsTcp, data_offset_of}
use Rattle.etherparse_transport.specs.declared.tcp.TcpHeaderSlice.{TcpHeaderSlice}
use Rattle.etherparse_transport.specs.Udp.{ReadsUdp, UdpReading, udp_words}
use Rattle.packet_parts.specs.IpSlice.{payload_end_of}
use Rattle.packet_parts.specs.declared.fragment.Fragment.{Fragment}
use Rattle.packet_parts.specs.declared.ip_slice.IpHeaderSlice.{IpHeaderSlice}
use Rattle.packet_parts.specs.declared.ip_slice.IpHeaderSlice.TheVariants as header
use Rattle.packet_parts.specs.declared.ip_slice.IpSlice.{IpSlice}
use Rattle.etherparse_transport.specs.declared.tcp.TcpError.{TcpError}
use Rattle.etherparse_transport.specs.declared.tcp.TcpError.TheVariants.{DataOffset, Len}
use Rattle.etherparse_transport.specs.declared.udp.UdpHeader.{UdpHeader}

abbrev slice_of : List ℕ → Bor (List ℕ)
slice_of s = record { ref_ptr = (0, 0); now = s }

four_words : (p : List ℕ) → length p ≡ 8 → (h : UdpHeader) × (words_of p ≡ udp_words h)
four_words (a ∷ b ∷ c ∷ d ∷ e ∷ f ∷ g ∷ h ∷ []) len = (
  record {
    source_port = from_be_bytes w16 (a ∷ b ∷ []);
    destination_port = from_be_bytes w16 (c ∷ d ∷ []);
    length = from_be_bytes w16 (e ∷ f ∷ []);
    checksum = from_be_bytes w16 (g ∷ h ∷ []);
  },
  refl,
)
four_words p len = absurd (omega (arith, len))

some_udp : (s : List ℕ) → IsBytes s → (r : UdpReading) × ReadsUdp s r
some_udp s bytes = elim (cases_lt (length s) 8) [
  | inl short ↦ (Err (too_short_error layer.UdpHeader 8 (length s)), record { short = short; error = refl })
  | inr enough ↦
      let len : length (take 8 s) ≡ 8 = omega (arith, length-take 8 s) in
      let h = four_words (take 8 s) len in
      (Ok (h.0, drop 8 s), record { front = take 8 s; whole = sym (take-append-drop 8 s); layout = record { len = len; are_bytes = part_is_bytes s 0 8 bytes; words = h.1 } })
]

some_icmp : (of : Layer) (s : List ℕ) → (r : Result (IcmpHeader × List ℕ) LenError) × Reads IsIcmpLayout (IsTooShort of 4) s r
some_icmp of s = elim (cases_lt (length s) 4) [
  | inl short ↦ (Err (too_short_error of 4 (length s)), record { short = short; error = refl })
  | inr enough ↦
      let len : length (take 4 s) ≡ 4 = omega (arith, length-take 4 s) in
      let h : IcmpHeader = record { type_u8 = slice_index (take 4 s) 0; code_u8 = slice_index (take 4 s) 1; checksum = number_at 2 (take 4 s) } in
      (Ok (h, drop 4 s), record { front = take 4 s; whole = sym (take-append-drop 4 s); layout = record { len = len; type_u8 = refl; code_u8 = refl; checksum = refl } })
]

some_tcp : (s : List ℕ) → (r : Result (List ℕ) TcpError) × ViewsTcp s r
some_tcp s = elim (cases_lt (length s) 20) [
  | inl short ↦ (Err (Len (too_short_error layer.TcpHeader 20 (length s))), inl (record { short = short; error = refl }))
  | inr enough ↦ elim (cases_lt (data_offset_of s) 5) [
    | inl low ↦ (Err (DataOffset (data_offset_of s)), (enough, low, refl))
    | inr offset ↦ elim (cases_lt (length s) (4 * data_offset_of s)) [
      | inl short ↦ (Err (Len (too_short_error layer.TcpHeader (4 * data_offset_of s) (length s))), inr (record { enough = enough; offset = offset }, record { short = short; error = refl }))
      | inr whole ↦ (Ok (take (4 * data_offset_of s) s), record { says = record { enough = enough; offset = offset }; enough = whole; cut = refl })
    ]
  ]
]

-- what is found by a reading, which fails for no reason in IP
abbrev Finds : TransportReading → Type 0
Finds reading = (found : Option TransportSlice) × (option_map transport_parts found ≡ result_ok reading) × (is_in_ip (result_err reading) ≡ false)

udp_finds : (place : ℕ) (r : UdpReading) → Finds (udp_reading place r)
udp_finds place (Ok x) = (Some (transport.Udp x.0 (slice_of x.1)), refl, refl)
udp_finds place (Err e) = (None, refl, refl)

tcp_view : (s x : List ℕ) → IsBytes s → ViewsTcp s (Ok x) → TcpHeaderSlice
tcp_view s x bytes v =
    let len : length x ≡ 4 * data_offset_of s = rw v.cut (omega (arith, length-take (4 * data_offset_of s) s, v.enough)) in
    let whole : 4 * data_offset_of s - 0 ≡ 4 * data_offset_of s = omega arith in
    let same : data_offset_of x ≡ data_offset_of s = rw v.cut (ap (λ k. k / 16) (get_or-take (4 * data_offset_of s) s 12 0 (omega (arith, v.says.offset)))) in
    record { slice = slice_of x; offset = rw same v.says.offset; len = rw same len; are_bytes = rw v.cut (rw whole at (part_is_bytes s 0 (4 * data_offset_of s) bytes)) }

tcp_finds : (place : ℕ) (s : List ℕ) (r : Result (List ℕ) TcpError) → IsBytes s → ViewsTcp s r → Finds (tcp_reading place s r)
unfolding tcp_view
tcp_finds place s (Ok x) bytes v = (Some (transport.Tcp (tcp_view s x bytes v) (slice_of (drop (length x) s))), refl, refl)
tcp_finds place s (Err e) bytes v = (None, refl, refl)

icmpv4_finds : (place : ℕ) (r : Result (IcmpHeader × List ℕ) LenError) → Finds (icmp_reading Icmpv4Parts place r)
icmpv4_finds place (Ok x) = (Some (transport.Icmpv4 x.0 (slice_of x.1)), refl, refl)
icmpv4_finds place (Err e) = (None, refl, refl)

icmpv6_finds : (place : ℕ) (r : Result (IcmpHeader × List ℕ) LenError) → Finds (icmp_reading Icmpv6Parts place r)
icmpv6_finds place (Ok x) = (Some (transport.Icmpv6 x.0 (slice_of x.1)), refl, refl)
icmpv6_finds place (Err e) = (None, refl, refl)

by_not_ip : (s : LenSource) (o : Option SliceError) → is_in_ip o ≡ false → is_in_ip (option_map (error_by s) o) ≡ false
by_not_ip s None h = h
by_not_ip s (Some (error.Ip e)) h = h
by_not_ip s (Some (error.Tcp (Len e))) h = h
by_not_ip s (Some (error.Tcp (DataOffset offset))) h = h
by_not_ip s (Some _) h = h

missing_not_ip : (s : LenSource) (f : Option Fragment) (r : TransportReading) → is_in_ip (result_err r) ≡ false → is_in_ip (missing_in s f r) ≡ false
missing_not_ip s None r h = by_not_ip s (result_err r) h
missing_not_ip s (Some f) r h = refl

-- a fact of one of three, or of none
one_of : {P : Type 0} (F : P → Type 0) (a b c : Bool) (x y z : P) → F x → F y → F z → MatchOption (if a then Some x else if b then Some y else if c then Some z else None) (Unit {0}) F
one_of F true b c x y z p q r = p
one_of F false true c x y z p q r = q
one_of F false false true x y z p q r = r
one_of F false false false x y z p q r = tt

module _ (place : ℕ) (slice : IpSlice) (bytes : IsBytes slice.payload.now) where
  abbrev s : List ℕ
  s = slice.payload.now

  header_of : (h : IpHeaderSlice) (later : Bool) (number : ℕ)
      → MatchOption (if later then None else protocol_over h number) (Unit {0}) (λ read. (t : Option TransportSlice) × (m : Option SliceError) × ReadsPayload read place slice t m × (is_in_ip m ≡ false))
  header_of h true number = tt
  header_of (header.Ipv4 v) false number =
      let u = some_udp s bytes in
      let t = some_tcp s in
      let i = some_icmp layer.Icmpv4 s in
      let uf = udp_finds place u.0 in
      let tf = tcp_finds place s t.0 bytes t.1 in
      let jf = icmpv4_finds place i.0 in
      one_of _ (number == 17) (number == 6) (number == 1) _ _ _
      (uf.0, missing_in (payload_end_of slice.header) slice.fragment (udp_reading place u.0), record { reading = udp_reading place u.0; reads = record { inside = u.0; allowed = u.1; becomes = refl }; finds = uf.1; misses = refl }, missing_not_ip _ _ _ uf.2)
      (tf.0, missing_in (payload_end_of slice.header) slice.fragment (tcp_reading place s t.0), record { reading = tcp_reading place s t.0; reads = record { inside = t.0; allowed = t.1; becomes = refl }; finds = tf.1; misses = refl }, missing_not_ip _ _ _ tf.2)
      (jf.0, missing_in (payload_end_of slice.header) slice.fragment (icmp_reading Icmpv4Parts place i.0), record { reading = icmp_reading Icmpv4Parts place i.0; reads = record { inside = i.0; allowed = i.1; becomes = refl }; finds = jf.1; misses = refl }, missing_not_ip _ _ _ jf.2)
  header_of (header.Ipv6 v) false number =
      let u = some_udp s bytes in
      let t = some_tcp s in
      let i = some_icmp layer.Icmpv6 s in
      let uf = udp_finds place u.0 in
      let tf = tcp_finds place s t.0 bytes t.1 in
      let jf = icmpv6_finds place i.0 in
      one_of _ (number == 17) (number == 6) (number == 58) _ _ _
      (uf.0, missing_in (payload_end_of slice.header) slice.fragment (udp_reading place u.0), record { reading = udp_reading place u.0; reads = record { inside = u.0; allowed = u.1; becomes = refl }; finds = uf.1; misses = refl }, missing_not_ip _ _ _ uf.2)
      (tf.0, missing_in (payload_end_of slice.header) slice.fragment (tcp_reading place s t.0), record { reading = tcp_reading place s t.0; reads = record { inside = t.0; allowed = t.1; becomes = refl }; finds = tf.1; misses = refl }, missing_not_ip _ _ _ tf.2)
      (jf.0, missing_in (payload_end_of slice.header) slice.fragment (icmp_reading Icmpv6Parts place i.0), record { reading = icmp_reading Icmpv6Parts place i.0; reads = record { inside = i.0; allowed = i.1; becomes = refl }; finds = jf.1; misses = refl }, missing_not_ip _ _ _ jf.2)

-- the transport header of a packet, and why it is not there
pub record HasTransport (place : ℕ) (slice : IpSlice) : Type 0 where
  pub transport : Option TransportSlice
  pub missing : Option SliceError
  pub reads : ReadsTransport place slice transport missing
  pub not_ip : is_in_ip missing ≡ false

at_protocol : {P : Type 0} (o : Option P) (R : P → Option TransportSlice → Option SliceError → Type 0) → MatchOption o (Unit {0}) (λ read. (t : Option TransportSlice) × (m : Option SliceError) × R read t m × (is_in_ip m ≡ false))
    → (t : Option TransportSlice) × (m : Option SliceError) × MatchOption o ((t ≡ None) × (m ≡ None)) (λ read. R read t m) × (is_in_ip m ≡ false)
at_protocol None R h = (None, None, (refl, refl), refl)
at_protocol (Some p) R h = h

pub has_transport : (place : ℕ) (slice : IpSlice) → IsBytes slice.payload.now → HasTransport place slice
has_transport place slice bytes =
    let f = at_protocol (protocol_of slice) (λ read t m. ReadsPayload read place slice t m) (header_of place slice bytes slice.header slice.is_later_fragment slice.upper) in
    record { transport = f.0; missing = f.1; reads = f.2; not_ip = f.3 }
