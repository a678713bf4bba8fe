-- The layout of an ARP packet, whose lengths of addresses tell its own.
use Rattle.std.proofs.Common.{ℕ, ◌≡◌, ◌≤◌, ◌∙◌, ◌-◌, List, [], ◌∷◌, ◌++◌, length, length-append, ap}
use Rattle.std.proofs.Common.{arith, inl, inr, rules, sym, drop_of_length-le, slice_index}
use Rattle.std.specs.List.{AllByRecursion}
use Rattle.std.proofs.Math.ListN.{get_or-append}
use Rattle.std.proofs.lemmas.Grind.{common_steps}
use Rattle.etherparse.proofs.Fronts.{TellsHeaders}
use Rattle.etherparse.proofs.Layouts.{Field, Fits, array, length-written, read_back, told, u8, u16}
use Rattle.etherparse.proofs.Layouts.{written}
use Rattle.etherparse.specs.Bytes.{IsBytes}
use Rattle.etherparse.specs.Reading.{BeginsWith}
use Rattle.etherparse.specs.declared.err.LenError.{LenError}
use Rattle.etherparse_link.specs.ArpPacket.{IsArpLayout, RefusesArp}
use Rattle.etherparse_link.specs.ArpPacketSlice.{arp_len_of, hw_addr_size_of, proto_addr_size_of}
use Rattle.etherparse_link.specs.declared.arp_packet.ArpPacket.{ArpPacket}

-- the length is told by the front alone
pub same_len : (s p x : List ℕ) → s ≡ p ++ x → 8 ≤ length p → arp_len_of s ≡ arp_len_of p
same_len s p x e enough =
    let hardware : slice_index s 4 ≡ slice_index p 4 =
    rw e (get_or-append p x 0 4 (omega (arith, enough))) in
    let protocol : slice_index s 5 ≡ slice_index p 5 =
    rw e (get_or-append p x 0 5 (omega (arith, enough))) in
    cc

module _ (s : List ℕ) (h : ArpPacket) (x : List ℕ) (b : BeginsWith IsArpLayout s h x) where
  enough : 8 ≤ length b.front
  enough = omega (arith, b.layout.len)

  pub len_at_front : arp_len_of s ≡ length b.front
  len_at_front = same_len s b.front x b.whole enough ∙ sym b.layout.len

  front_fits : length b.front ≤ length s
  front_fits = omega (arith, ap length b.whole, length-append b.front x)

  pub not_refused : (e : LenError) → RefusesArp s e → ⊥
  not_refused e (inl short) = omega (arith, enough, short.short, front_fits)
  not_refused e (inr lacks) = omega (arith, len_at_front, lacks.short, front_fits)

one_refusal : (s : List ℕ) (e f : LenError) → RefusesArp s e → RefusesArp s f → e ≡ f
one_refusal s e f (inl p) (inl q) = p.error ∙ sym q.error
one_refusal s e f (inl p) (inr q) = absurd (omega (arith, p.short, q.enough))
one_refusal s e f (inr p) (inl q) = absurd (omega (arith, q.short, p.enough))
one_refusal s e f (inr p) (inr q) = p.error ∙ sym q.error

pub tells_headers : TellsHeaders IsArpLayout RefusesArp
tells_headers = record {
  one_header = λ g h p k l. search rules;
  one_length = λ s g h x y p q. sym (len_at_front s g x p) ∙ len_at_front s h y q;
  not_refused = λ s h x e b r. not_refused s h x b e r;
  one_refusal = one_refusal;
}

-- the fields of a packet, in their order
abbrev pub arp_fields : ℕ → ℕ → ArpPacket → List Field
arp_fields m n h = u16 h.hw_addr_type ∷ u16 h.proto_addr_type ∷ u8 m ∷ u8 n ∷ u16 h.operation
    ∷ array m h.hw_addrs.sender ∷ array n h.protocol_addrs.sender
    ∷ array m h.hw_addrs.target ∷ array n h.protocol_addrs.target ∷ []

module _ (h : ArpPacket) (p : List ℕ) where
  pub spelled : IsArpLayout h p
      → p ≡ written (arp_fields (hw_addr_size_of p) (proto_addr_size_of p) h) []
  spelled l =
      let fields = arp_fields (hw_addr_size_of p) (proto_addr_size_of p) h in
      let nothing_after = drop_of_length-le p {i = arp_len_of p} (omega (arith, l.len)) in
      told p 0 fields [] l.are_bytes (omega (arith, l.len)) (search (rules, l, nothing_after))

  -- the lengths are those of the addresses
  pub hw_size : IsArpLayout h p → hw_addr_size_of p ≡ length h.hw_addrs.sender
  hw_size l = grind (arith, common_steps, ap length l.sender_hw_addr, l.len)

  pub protocol_size : IsArpLayout h p → proto_addr_size_of p ≡ length h.protocol_addrs.sender
  protocol_size l = grind (arith, common_steps, ap length l.sender_protocol_addr, l.len)

  pub spells : (m n : ℕ) → AllByRecursion Fits (arp_fields m n h) → IsBytes p
      → p ≡ written (arp_fields m n h) [] → IsArpLayout h p
  spells m n fit are_bytes e =
      let fields = read_back p 0 (arp_fields m n h) [] fit e in
      let len = ap length e ∙ length-written (arp_fields m n h) [] fit in
      search (rules, fields, len)

-- bytes after bytes are bytes
pub append_is_bytes : (p q : List ℕ) → IsBytes p → IsBytes q → IsBytes (p ++ q)
append_is_bytes p q a b i =
    grind (arith, common_steps, get_or-append p q 0 i, a i, b (i - length p))
