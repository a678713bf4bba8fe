-- a packet is added, or is no fragment, or is refused for one reason
use Rattle.std.proofs.Common.{ℕ, ◌≡◌, ◌*◌, ◌∙◌, List, None, Option, Some, ap, arith, false, inl, inr, length, refl, subst, sym, true}
use Rattle.packet_parts.proofs.ExtensionEnds.{one_end}
use Rattle.packet_reassembly.proofs.Arrivals.{not_refused}
use Rattle.packet_reassembly.proofs.IpFragments.{fragment_not_refused, fragment_not_whole, fragment_once, fragment_refused_once, whole_not_refused}
use Rattle.packet_reassembly.specs.Fragment.{Fragment}
use Rattle.packet_reassembly.specs.HeaderChain.{HasWholeChain, LacksChain, upper_header_len}
use Rattle.packet_reassembly.specs.IpFragment.{HasIpFragment, IsNoFragment}
use Rattle.packet_reassembly.specs.PacketAdded.{HasLackingChain, HasLongHeaders, HasRefusedFragment, HasShortHeaders, IsFirstOfIpv6, IsIpv6, IsPacketAdded, RefusesPacket, fragment_of_packet}
use Rattle.packet_reassembly.specs.Refusal.{Refuses}
use Rattle.packet_reassembly.specs.declared.ip_defrag_error.IpDefragError.{IpDefragError}
use Rattle.packet_reassembly.specs.declared.ip_defrag_packet.IpDefragPacketError.{IpDefragPacketError}
use Rattle.packet_reassembly.specs.declared.ip_defrag_packet.IpDefragPacketError.TheVariants.{Fragment as Refused, HeaderChain, HeadersTooLong, Packet}
use Rattle.packet_reassembly.specs.declared.ip_defrag_pool.Added.{Added}
use Rattle.packet_reassembly.specs.declared.ip_defrag_pool.IpDefragSlot.{IpDefragSlot}
use Rattle.packet_reassembly.specs.declared.ip_fragment_slice.IpFragmentSlice.{IpFragmentSlice}

-- a chain that is whole lacks nothing
whole_not_lacking : (number : ℕ) (payload : List ℕ) → HasWholeChain number payload → LacksChain number payload → ⊥
whole_not_lacking number payload w (inl q) =
    let no = (one_end payload number false false None (Some q.e) w.decided q.decided w.upper q.upper w.rest q.rest w.ends q.ends).incomplete in cc
whole_not_lacking number payload w (inr (inl q)) =
    let end = one_end payload number false false None None w.decided q.decided w.upper q.upper w.rest q.rest w.ends q.ends in
    let same : upper_header_len w.upper w.rest ≡ upper_header_len q.upper q.rest = ap (λ n. upper_header_len n w.rest) end.number ∙ ap (λ r. upper_header_len q.upper r) end.rest in
    omega (arith, same, ap length end.rest, w.enough, q.short)
whole_not_lacking number payload w (inr (inr q)) =
    let no = (one_end payload number false true None None w.decided q.decided w.upper q.upper w.rest q.rest w.ends q.ends).later in cc

-- a fragment is refused for one reason
refuses_once : (f : Fragment) (a b : IpDefragError) → Refuses f a → Refuses f b → a ≡ b
refuses_once f a b r q = grind arith

module _ (s : List ℕ) (f : IpFragmentSlice) (has : HasIpFragment s f) where
  -- it does not lack a part of the chain if it has all of it
  chain_not_lacking : HasLackingChain s → (IsFirstOfIpv6 f → HasWholeChain f.next_header f.payload.now) → ⊥
  chain_not_lacking l chain =
      let same = fragment_once s l.f f l.has has in
      let first : IsFirstOfIpv6 f = (subst IsIpv6 (ap (λ x. x.ip) same) l.first.0, sym (ap (λ x. x.offset) same) ∙ l.first.1) in
      whole_not_lacking f.next_header f.payload.now (chain first) (subst (λ x. LacksChain x.next_header x.payload) same l.lacks)

  -- its headers are not long if they are short
  short_not_long : (len : ℕ) → HasLongHeaders s len → HasShortHeaders f → ⊥
  short_not_long len l short =
      let same = fragment_once s l.f f l.has has in
      omega (arith, l.is_len, l.long, ap (λ x. length x.headers) same, short (sym (ap (λ x. x.offset) same) ∙ l.first))

  -- it is refused for the reason for which that is
  refused_at : (e : IpDefragError) → HasRefusedFragment s e → Refuses (fragment_of_packet f) e
  refused_at e r = subst (λ x. Refuses (record { start = 8 * x.offset; more = x.more_fragments; bytes = x.payload }) e) (fragment_once s r.f f r.has has) r.refused

-- a packet that is refused is refused for one reason
pub one_reason : (s : List ℕ) (a b : IpDefragPacketError) → RefusesPacket s a → RefusesPacket s b → a ≡ b
one_reason s (Packet a) (Packet b) p q = ap Packet (fragment_refused_once s a b p q)
one_reason s (Packet a) HeaderChain p q = absurd (fragment_not_refused s q.f a q.has p)
one_reason s (Packet a) (HeadersTooLong n) p q = absurd (fragment_not_refused s q.f a q.has p)
one_reason s (Packet a) (Refused b) p q = absurd (fragment_not_refused s q.f a q.has p)
one_reason s HeaderChain (Packet b) p q = absurd (fragment_not_refused s p.f b p.has q)
one_reason s HeaderChain HeaderChain p q = refl
one_reason s HeaderChain (HeadersTooLong n) p q = absurd (chain_not_lacking s q.f q.has p q.chain)
one_reason s HeaderChain (Refused b) p q = absurd (chain_not_lacking s q.f q.has p q.chain)
one_reason s (HeadersTooLong n) (Packet b) p q = absurd (fragment_not_refused s p.f b p.has q)
one_reason s (HeadersTooLong n) HeaderChain p q = absurd (chain_not_lacking s p.f p.has q p.chain)
one_reason s (HeadersTooLong n) (HeadersTooLong m) p q =
    let same = ap (λ x. length x.headers) (fragment_once s p.f q.f p.has q.has) in let e : n ≡ m = omega (arith, p.is_len, q.is_len, same) in rw e refl
one_reason s (HeadersTooLong n) (Refused b) p q = absurd (short_not_long s q.f q.has n p q.short)
one_reason s (Refused a) (Packet b) p q = absurd (fragment_not_refused s p.f b p.has q)
one_reason s (Refused a) HeaderChain p q = absurd (chain_not_lacking s p.f p.has q p.chain)
one_reason s (Refused a) (HeadersTooLong m) p q = absurd (short_not_long s p.f p.has m q p.short)
one_reason s (Refused a) (Refused b) p q = ap Refused (refuses_once (fragment_of_packet q.f) a b (refused_at s q.f q.has a p) q.refused)

-- it is then a fragment, or is not told to be none
pub refused_not_whole : (s : List ℕ) (e : IpDefragPacketError) → RefusesPacket s e → IsNoFragment s → ⊥
refused_not_whole s (Packet e) r none = whole_not_refused s e none r
refused_not_whole s HeaderChain r none = fragment_not_whole s r.f r.has none
refused_not_whole s (HeadersTooLong n) r none = fragment_not_whole s r.f r.has none
refused_not_whole s (Refused e) r none = fragment_not_whole s r.f r.has none

-- and it is not added
pub refused_not_added : {s : List ℕ} {outer inner : Option ℕ} {timeout now : ℕ} {old new : List IpDefragSlot} {added : Added} → IsPacketAdded old s outer inner timeout now new added
    → (e : IpDefragPacketError) → RefusesPacket s e → ⊥
refused_not_added {s = s} a (Packet e) r = fragment_not_refused s a.f e a.has r
refused_not_added {s = s} a HeaderChain r = chain_not_lacking s a.f a.has r a.chain
refused_not_added {s = s} a (HeadersTooLong n) r = short_not_long s a.f a.has n r a.short
refused_not_added {s = s} a (Refused e) r = not_refused (fragment_of_packet a.f) e a.right (refused_at s a.f a.has e r)
