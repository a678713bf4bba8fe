-- A transport header is read in one way.
use Rattle.std.proofs.Common.{ℕ, ◌≡◌, ◌+◌, List, MatchOption, Option, Some, None, Result, ap, ◌∙◌, arith, refl, rules, sym, subst, option_map, if◌then◌else◌}
use Rattle.std.specs.Result.{result_ok}
use Rattle.etherparse.proofs.Fronts.{TellsHeaders, fixed_tells, read_once}
use Rattle.etherparse.specs.Reading.{IsTooShort}
use Rattle.etherparse.specs.declared.err.Layer.{Layer}
use Rattle.etherparse.specs.declared.err.Layer.TheVariants as layer
use Rattle.etherparse_transport.specs.Tcp.{ViewsTcp}
use Rattle.etherparse_transport.specs.Udp.{IsUdpLayout}
use Rattle.packet_parts.specs.IpSlice.{header_bytes, header_len_of, header_parts, ip_parts, payload_end_of}
use Rattle.packet_parts.specs.declared.ip_slice.IpHeaderSlice.{IpHeaderSlice}
use Rattle.packet_parts.specs.declared.ip_slice.IpHeaderSlice.TheVariants as header
use Rattle.packet_parts.specs.declared.ip_slice.IpSlice.{IpSlice}
use Rattle.etherparse_transport.specs.declared.tcp.TcpError.{TcpError}
use Rattle.packet.specs.Transport.{Icmpv4Parts, Icmpv6Parts, IsIcmpLayout, ReadsHeader, ReadsPayload, ReadsTransport, TransportReading, icmp_reading, missing_in, protocol_over, protocol_of, tcp_reading, transport_parts, udp_reading}
use Rattle.packet.specs.declared.error.SliceError.{SliceError}
use Rattle.packet.specs.declared.transport.Protocol.{Protocol}
use Rattle.packet.specs.declared.transport.Protocol.TheVariants.{Icmpv4, Icmpv6, Tcp, Udp}
use Rattle.packet.specs.declared.transport.TransportSlice.{TransportSlice}

tells_udp : TellsHeaders IsUdpLayout (IsTooShort layer.UdpHeader 8)
tells_udp = fixed_tells IsUdpLayout layer.UdpHeader 8 (λ g h p k l. search rules) (λ h p l. l.len)

tells_icmp : (of : Layer) → TellsHeaders IsIcmpLayout (IsTooShort of 4)
tells_icmp of = fixed_tells IsIcmpLayout of 4 (λ g h p k l. search rules) (λ h p l. l.len)

tcp_once : (s : List ℕ) (a b : Result (List ℕ) TcpError) → ViewsTcp s a → ViewsTcp s b → a ≡ b
tcp_once s a b p q = grind arith

-- the header of a protocol is read in one way
header_once : (read : Protocol) (place : ℕ) (s : List ℕ) (a b : TransportReading) → ReadsHeader read place s a → ReadsHeader read place s b → a ≡ b
header_once Udp place s a b p q =
    p.becomes ∙ ap (udp_reading place) (read_once IsUdpLayout (IsTooShort layer.UdpHeader 8) tells_udp s p.inside q.inside p.allowed q.allowed) ∙ sym q.becomes
header_once Tcp place s a b p q = p.becomes ∙ ap (tcp_reading place s) (tcp_once s p.inside q.inside p.allowed q.allowed) ∙ sym q.becomes
header_once Icmpv4 place s a b p q =
    p.becomes ∙ ap (icmp_reading Icmpv4Parts place) (read_once IsIcmpLayout (IsTooShort layer.Icmpv4 4) (tells_icmp layer.Icmpv4) s p.inside q.inside p.allowed q.allowed) ∙ sym q.becomes
header_once Icmpv6 place s a b p q =
    p.becomes ∙ ap (icmp_reading Icmpv6Parts place) (read_once IsIcmpLayout (IsTooShort layer.Icmpv6 4) (tells_icmp layer.Icmpv6) s p.inside q.inside p.allowed q.allowed) ∙ sym q.becomes

-- packets with one list of parts have what a transport header depends on in common
record SameFront (a b : IpSlice) : Type 0 where
  protocol : protocol_of a ≡ protocol_of b
  payload : a.payload.now ≡ b.payload.now
  fragment : a.fragment ≡ b.fragment
  end : payload_end_of a.header ≡ payload_end_of b.header
  len : header_len_of a ≡ header_len_of b

same_protocol : (g h : IpHeaderSlice) (number : ℕ) → header_parts g ≡ header_parts h → protocol_over g number ≡ protocol_over h number
same_protocol (header.Ipv4 v) (header.Ipv4 w) number e = refl
same_protocol (header.Ipv6 v) (header.Ipv6 w) number e = refl
same_protocol (header.Ipv4 v) (header.Ipv6 w) number e = cc
same_protocol (header.Ipv6 v) (header.Ipv4 w) number e = cc

same_bytes : (g h : IpHeaderSlice) → header_parts g ≡ header_parts h → header_bytes g ≡ header_bytes h
same_bytes (header.Ipv4 v) (header.Ipv4 w) e = cc
same_bytes (header.Ipv6 v) (header.Ipv6 w) e = cc
same_bytes (header.Ipv4 v) (header.Ipv6 w) e = cc
same_bytes (header.Ipv6 v) (header.Ipv4 w) e = cc

same_end : (g h : IpHeaderSlice) → header_parts g ≡ header_parts h → payload_end_of g ≡ payload_end_of h
same_end (header.Ipv4 v) (header.Ipv4 w) e = refl
same_end (header.Ipv6 v) (header.Ipv6 w) e = refl
same_end (header.Ipv4 v) (header.Ipv6 w) e = cc
same_end (header.Ipv6 v) (header.Ipv4 w) e = cc

same_front : (a b : IpSlice) → ip_parts a ≡ ip_parts b → SameFront a b
same_front a b e =
    let headers = ap (λ p. p.header) e in
    let later = ap (λ p. p.is_later_fragment) e in
    let upper = ap (λ p. p.upper) e in
    record {
      protocol = rw (later, upper) (ap (λ p. if b.is_later_fragment then None else p) (same_protocol a.header b.header b.upper headers));
      payload = ap (λ p. p.payload) e;
      fragment = ap (λ p. p.fragment) e;
      end = same_end a.header b.header headers;
      len = rw (same_bytes a.header b.header headers, ap (λ p. p.extensions) e) refl;
    }

-- the header of a payload is read in one way
payload_once : (read : Protocol) (place : ℕ) (a b : IpSlice) (t u : Option TransportSlice) (m n : Option SliceError) → SameFront a b
    → ReadsPayload read place a t m → ReadsPayload read place b u n → (option_map transport_parts t ≡ option_map transport_parts u) × (m ≡ n)
payload_once read place a b t u m n same p q =
    let reading = header_once read place b.payload.now p.reading q.reading (subst (λ s. ReadsHeader read place s p.reading) same.payload p.reads) q.reads in (
      p.finds ∙ ap result_ok reading ∙ sym q.finds,
      p.misses ∙ ap (λ s. missing_in s a.fragment p.reading) same.end ∙ ap (λ f. missing_in (payload_end_of b.header) f p.reading) same.fragment
          ∙ ap (missing_in (payload_end_of b.header) b.fragment) reading ∙ sym q.misses,
    )

at_protocol : (o r : Option Protocol) (place : ℕ) (a b : IpSlice) (t u : Option TransportSlice) (m n : Option SliceError) → SameFront a b → o ≡ r
    → MatchOption o ((t ≡ None) × (m ≡ None)) (λ read. ReadsPayload read place a t m) → MatchOption r ((u ≡ None) × (n ≡ None)) (λ read. ReadsPayload read place b u n)
    → (option_map transport_parts t ≡ option_map transport_parts u) × (m ≡ n)
at_protocol None None place a b t u m n same e p q = (ap (option_map transport_parts) (p.0 ∙ sym q.0), p.1 ∙ sym q.1)
at_protocol (Some x) (Some y) place a b t u m n same e p q =
    let is : x ≡ y = cc in payload_once y place a b t u m n same (subst (λ z. ReadsPayload z place a t m) is p) q
at_protocol None (Some y) place a b t u m n same e p q = cc
at_protocol (Some x) None place a b t u m n same e p q = cc

pub transport_once : (place : ℕ) (a b : IpSlice) (t u : Option TransportSlice) (m n : Option SliceError) → ip_parts a ≡ ip_parts b
    → ReadsTransport (place + header_len_of a) a t m → ReadsTransport (place + header_len_of b) b u n
    → (option_map transport_parts t ≡ option_map transport_parts u) × (m ≡ n)
transport_once place a b t u m n e p q =
    let same = same_front a b e in
    at_protocol (protocol_of a) (protocol_of b) (place + header_len_of b) a b t u m n same same.protocol (subst (λ k. ReadsTransport (place + k) a t m) same.len p) q
