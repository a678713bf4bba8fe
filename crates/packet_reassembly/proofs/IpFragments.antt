-- a packet is one fragment, or none, or refused for one reason
use Rattle.std.proofs.Common.{ℕ, ◌≡◌, ◌≢◌, ◌<◌, ◌≤◌, ◌+◌, ◌-◌, ◌++◌, ◌∙◌, Err, IfErr, IfNone, IfOk, IfSome, List, None, Ok, Option, Result, Some, ap, arith, inl, inr, length, length-append, refl, rules, subst, sym, take, take_at}
use Rattle.std.proofs.lemmas.Bool.Decides.{nat_tests}
use Rattle.std.proofs.lemmas.Grind.{common_steps}
use Rattle.etherparse.proofs.Ipv4Reading.{tells_headers as tells_ipv4}
use Rattle.etherparse.proofs.Ipv6Reading.{tells_headers as tells_ipv6}
use Rattle.etherparse.specs.IpEcn.{ecn_value}
use Rattle.etherparse.specs.Ipv4Header.{IsFragment, IsIpv4Layout, RefusesIpv4, ipv4_header_len, ipv4_payload_len}
use Rattle.etherparse.specs.Ipv6Header.{IsIpv6Layout, RefusesIpv6}
use Rattle.etherparse.specs.Reading.{BeginsWith}
use Rattle.etherparse.specs.declared.IpEcn.{IpEcn}
use Rattle.etherparse.specs.declared.err.LenError.{LenError}
use Rattle.etherparse.specs.declared.net.ipv4_header.Ipv4Header.{Ipv4Header as Header4}
use Rattle.etherparse.specs.declared.net.ipv6_header.Ipv6Header.{Ipv6Header as Header6}
use Rattle.packet_parts.proofs.ExtensionEnds.{same_beginning}
use Rattle.packet_parts.proofs.IpParts.{begins_4, begins_6, ipv4_front, is_version_4, is_version_6, longer, packet_len_6, same_cut_beginning, trimmed_front}
use Rattle.packet_parts.proofs.IpRefusals.{refused_once}
use Rattle.packet_parts.specs.Extensions.{EndsInHeader}
use Rattle.packet_parts.specs.IpSlice.{EndsInExtensions, HasPartsWith, RefusesIp, ipv4_bytes, ipv6_packet_len, ipv6_trimmed, packet_len_of}
use Rattle.etherparse.specs.FirstByte.{version_of}
use Rattle.packet_parts.specs.declared.ip_slice.IpHeaderSlice.{IpHeaderSlice}
use Rattle.packet_parts.specs.declared.ip_slice.IpHeaderSlice.TheVariants as header
use Rattle.packet_parts.specs.declared.ip_slice.IpSlice.{IpSlice}
use Rattle.packet_parts.specs.declared.ip_slice.IpSliceError.{IpSliceError}
use Rattle.packet_parts.specs.declared.ip_slice.IpSliceError.TheVariants.{Empty, Extensions, Ipv4Header, Ipv6Header, Packet, UnexpectedVersion}
use Rattle.packet_reassembly.proofs.Kept.{before_payload}
use Rattle.packet_reassembly.proofs.Walked.{none_not_before, parts_not_at, parts_once}
use Rattle.packet_reassembly.specs.IpFragment.{EndsBeforeFragment, HasIpFragment, HasIpv4Fragment, HasIpv6Fragment, IsNoFragment, RefusesIpFragment, ReadsIpFragment, fragment_fields, ip_fragment_answer}
use Rattle.packet_reassembly.specs.declared.ip_fragment_slice.IpFragmentSlice.{IpFragmentSlice}

-- a packet whose front begins with a header begins with it
front_4 : (s : List ℕ) (h : Header4) (x : List ℕ) → BeginsWith IsIpv4Layout (ipv4_bytes h s) h x → BeginsWith IsIpv4Layout s h (x ++ (ipv4_front h s).0)
front_4 s h x b = longer IsIpv4Layout s _ _ h x (ipv4_front h s).1 b

front_6 : (s : List ℕ) (h : Header6) (x : List ℕ) → BeginsWith IsIpv6Layout (ipv6_trimmed h s) h x → BeginsWith IsIpv6Layout s h (x ++ (trimmed_front h s).0)
front_6 s h x b = longer IsIpv6Layout s _ _ h x (trimmed_front h s).1 b

-- it has one version
one_version : (s : List ℕ) (g : Header4) (h : Header6) (x y : List ℕ) → BeginsWith IsIpv4Layout s g x → BeginsWith IsIpv6Layout s h y → ⊥
one_version s g h x y b c = omega (arith, is_version_4 s g x b, is_version_6 s h y c)

-- one that ends within an extension header has all its bytes, or its payload length says nothing
enough_6 : (p n len : ℕ) → 40 + p ≤ len → ipv6_packet_len p n ≤ len
enough_6 p n len enough = grind (arith, nat_tests, enough)

pub all_bytes_6 : (p n len : ℕ) → ipv6_packet_len p n ≤ len → 40 ≤ len → 40 + p ≤ len
all_bytes_6 p n len told header = grind (arith, nat_tests, told, header)

pub extensions_enough : (s : List ℕ) (a : IpSlice) (h : IpHeaderSlice) (e : LenError) → HasPartsWith h s a → EndsInExtensions s e → (packet_len_of h ≡ 0 → version_of s ≡ 6) × (packet_len_of h ≤ length s)
extensions_enough s a (header.Ipv4 view) e p q = absurd (one_version s p.header q.header _ _ (begins_4 s _ a p) (front_6 s q.header q.body q.begins))
extensions_enough s a (header.Ipv6 view) e p q =
    let begins = begins_6 s _ a p in
    let same = (same_beginning IsIpv6Layout RefusesIpv6 tells_ipv6 s p.header q.header _ _ begins (front_6 s q.header q.body q.begins)).0 in
    let told = packet_len_6 view p.header p.begins.front p.begins.layout p.view in
    let enough : 40 + p.header.payload_length ≤ length s = rw (sym same) at q.enough in
    (λ zero. is_version_6 s p.header _ begins, rw (sym told) at (enough_6 p.header.payload_length p.header.next_header (length s) enough))

-- a refusal is one of a packet that is not sliced
is_refused : (s : List ℕ) (e : IpSliceError) → RefusesIpFragment s e → RefusesIp s e
is_refused s e r = grind arith

-- one with all its bytes is not refused, unless it ends within an extension header
stated_4 : (h : Header4) (e : LenError) → ipv4_payload_len h ≡ Err e → h.total_len < ipv4_header_len h
stated_4 h e says = grind (arith, nat_tests)

told_4 : (s : List ℕ) (h : Header4) (x : List ℕ) → BeginsWith IsIpv4Layout (ipv4_bytes h s) h x → h.total_len ≢ 0 → ipv4_header_len h ≤ h.total_len
told_4 s h x p some =
    let told : length (ipv4_bytes h s) ≤ h.total_len = grind (arith, common_steps, nat_tests) in omega (arith, told, ap length p.whole, length-append {A = ℕ}, p.layout.layout.len)

not_refused_4 : (s : List ℕ) (h : Header4) (x : List ℕ) (e : IpSliceError) → BeginsWith IsIpv4Layout s h x → ipv4_header_len h ≤ h.total_len → h.total_len ≤ length s → RefusesIp s e → ⊥
not_refused_4 s h x (Empty e) b told enough r = omega (arith, r.0, ap length b.whole, length-append {A = ℕ}, b.layout.layout.len)
not_refused_4 s h x (UnexpectedVersion version) b told enough r = r.2 (r.1 ∙ is_version_4 s h x b)
not_refused_4 s h x (Ipv4Header e) b told enough r = tells_ipv4.not_refused s h x e b r.2
not_refused_4 s h x (Ipv6Header e) b told enough r = omega (arith, is_version_4 s h x b, r.1)
not_refused_4 s h x (Packet e) b told enough (inl r) =
    let same = (same_beginning IsIpv4Layout RefusesIpv4 tells_ipv4 s r.header h r.rest x r.begins b).0 in omega (arith, told, stated_4 h e (subst (λ k. ipv4_payload_len k ≡ Err e) same r.says))
not_refused_4 s h x (Packet e) b told enough (inr (inl r)) =
    let same = (same_beginning IsIpv4Layout RefusesIpv4 tells_ipv4 s r.header h r.rest x r.begins b).0 in omega (arith, enough, rw same at r.short)
not_refused_4 s h x (Packet e) b told enough (inr (inr r)) = one_version s h r.header x r.rest b r.begins
not_refused_4 s h x (Extensions e) b told enough r = one_version s h r.header x _ b (front_6 s r.header r.body r.begins)

not_refused_6 : (s : List ℕ) (h : Header6) (x : List ℕ) (e : IpSliceError) → BeginsWith IsIpv6Layout s h x → 40 + h.payload_length ≤ length s → RefusesIp s e
    → (y : LenError) × (e ≡ Extensions y)
not_refused_6 s h x (Empty e) b enough r = absurd (omega (arith, r.0, enough))
not_refused_6 s h x (UnexpectedVersion version) b enough r = absurd (r.3 (r.1 ∙ is_version_6 s h x b))
not_refused_6 s h x (Ipv4Header e) b enough r = absurd (omega (arith, is_version_6 s h x b, r.1))
not_refused_6 s h x (Ipv6Header e) b enough r = absurd (tells_ipv6.not_refused s h x e b r.2)
not_refused_6 s h x (Packet e) b enough (inl r) = absurd (one_version s r.header h r.rest x r.begins b)
not_refused_6 s h x (Packet e) b enough (inr (inl r)) = absurd (one_version s r.header h r.rest x r.begins b)
not_refused_6 s h x (Packet e) b enough (inr (inr r)) =
    let same = (same_beginning IsIpv6Layout RefusesIpv6 tells_ipv6 s r.header h r.rest x r.begins b).0 in absurd (omega (arith, enough, rw same at r.short))
not_refused_6 s h x (Extensions e) b enough r = (e, refl)

-- a packet that ends within an extension header, and not after a fragment header that decides
module _ (s : List ℕ) (h : Header6) (body : List ℕ) (b : BeginsWith IsIpv6Layout (ipv6_trimmed h s) h body) (enough : 40 + h.payload_length ≤ length s) where
  -- nothing that the body cannot be together with such a header
  refused_6 : (e : IpSliceError) → RefusesIpFragment s e → ((n : ℕ) (r : List ℕ) → EndsInHeader body h.next_header None n r → ⊥) → ⊥
  refused_6 e r not_before =
      let (y, is) = not_refused_6 s h _ e (front_6 s h body b) enough (is_refused s e r) in
      let before : EndsBeforeFragment s y = subst (RefusesIpFragment s) is r in
      let q = before.ends in
      let same = same_cut_beginning IsIpv6Layout RefusesIpv6 tells_ipv6 ipv6_trimmed trimmed_front s q.header h q.body body q.begins b in
      not_before q.number q.rest (rw (same.0, same.1, before.undecided) at q.ends.0)

-- a fragment is not refused
pub fragment_not_refused : (s : List ℕ) (f : IpFragmentSlice) (e : IpSliceError) → HasIpFragment s f → RefusesIpFragment s e → ⊥
fragment_not_refused s f e (inl p) r = not_refused_4 s p.header _ e (front_4 s p.header f.payload.now p.begins) (told_4 s p.header f.payload.now p.begins p.told) p.enough (is_refused s e r)
fragment_not_refused s f e (inr p) r = refused_6 s p.header p.body p.begins p.enough e r (λ n rest q. parts_not_at p.parts n rest p.are_parts q.passes (λ _ whole. omega (arith, q.short, whole)))

-- nor is a packet that is none
pub whole_not_refused : (s : List ℕ) (e : IpSliceError) → IsNoFragment s → RefusesIpFragment s e → ⊥
whole_not_refused s e (inl p) r = not_refused_4 s p.header _ e (front_4 s p.header p.payload p.begins) (told_4 s p.header p.payload p.begins p.told) p.enough (is_refused s e r)
whole_not_refused s e (inr p) r = refused_6 s p.header p.body p.begins p.enough e r (λ n rest q. none_not_before n rest p.none q)

-- and a packet is not both
pub fragment_not_whole : (s : List ℕ) (f : IpFragmentSlice) → HasIpFragment s f → IsNoFragment s → ⊥
fragment_not_whole s f (inl p) (inl q) =
    let same = (same_cut_beginning IsIpv4Layout RefusesIpv4 tells_ipv4 ipv4_bytes ipv4_front s p.header q.header f.payload.now q.payload p.begins q.begins).0 in q.is_whole (subst IsFragment same p.is_fragment)
fragment_not_whole s f (inl p) (inr q) = one_version s p.header q.header _ _ (front_4 s p.header f.payload.now p.begins) (front_6 s q.header q.body q.begins)
fragment_not_whole s f (inr p) (inl q) = one_version s q.header p.header _ _ (front_4 s q.header q.payload q.begins) (front_6 s p.header p.body p.begins)
fragment_not_whole s f (inr p) (inr q) =
    let same = same_cut_beginning IsIpv6Layout RefusesIpv6 tells_ipv6 ipv6_trimmed trimmed_front s p.header q.header p.body q.body p.begins q.begins in
    parts_not_at p.parts q.none.number q.none.rest (rw (same.0, same.1) at p.are_parts) q.none.passes (λ skippable _. q.none.upper skippable)

-- the headers of a fragment are what is before its bytes
headers_4 : (s : List ℕ) (f : IpFragmentSlice) (p : HasIpv4Fragment s f) → f.headers.now ≡ take (length (ipv4_bytes p.header s) - length f.payload.now) (ipv4_bytes p.header s)
headers_4 s f p = rw (p.headers, p.begins.whole) (sym (take_at p.begins.front f.payload.now _ (omega (arith, length-append p.begins.front f.payload.now))))

headers_6 : (s : List ℕ) (f : IpFragmentSlice) (p : HasIpv6Fragment s f) → f.headers.now ≡ take (length (ipv6_trimmed p.header s) - length f.payload.now) (ipv6_trimmed p.header s)
headers_6 s f p = rw (p.headers, p.payload) (sym (before_payload p.begins.front p.parts.before.now p.parts.last.now p.are_parts.begins.front p.parts.payload.now (ipv6_trimmed p.header s)
    (p.begins.whole ∙ ap (λ x. p.begins.front ++ x) (p.are_parts.whole ∙ ap (λ x. p.parts.before.now ++ (p.parts.last.now ++ x)) p.are_parts.begins.whole))))

-- a number is that of one codepoint
one_ecn : (a b : IpEcn) → ecn_value a ≡ ecn_value b → a ≡ b
one_ecn a b same = search rules

-- a packet is one fragment
pub fragment_once : (s : List ℕ) (f g : IpFragmentSlice) → HasIpFragment s f → HasIpFragment s g → fragment_fields f ≡ fragment_fields g
fragment_once s f g (inl p) (inl q) =
    let same = same_cut_beginning IsIpv4Layout RefusesIpv4 tells_ipv4 ipv4_bytes ipv4_front s p.header q.header f.payload.now g.payload.now p.begins q.begins in
    cc (headers_4 s f p, headers_4 s g q, p.last_extension, q.last_extension)
fragment_once s f g (inl p) (inr q) = absurd (one_version s p.header q.header _ _ (front_4 s p.header f.payload.now p.begins) (front_6 s q.header q.body q.begins))
fragment_once s f g (inr p) (inl q) = absurd (one_version s q.header p.header _ _ (front_4 s q.header g.payload.now q.begins) (front_6 s p.header p.body p.begins))
fragment_once s f g (inr p) (inr q) =
    let same = same_cut_beginning IsIpv6Layout RefusesIpv6 tells_ipv6 ipv6_trimmed trimmed_front s p.header q.header p.body q.body p.begins q.begins in
    let parts = parts_once p.parts q.parts (rw (same.0, same.1) at p.are_parts) q.are_parts in
    let ecn : ecn_value f.ecn ≡ ecn_value g.ecn = rw same.0 at p.ecn ∙ sym q.ecn in
    let last : f.last_extension ≡ g.last_extension = p.last_extension ∙ ap (λ n. 40 + n) parts.2 ∙ sym q.last_extension in
    cc (headers_6 s f p, headers_6 s g q, one_ecn f.ecn g.ecn ecn, last)

-- it is refused for one reason
pub fragment_refused_once : (s : List ℕ) (e f : IpSliceError) → RefusesIpFragment s e → RefusesIpFragment s f → e ≡ f
fragment_refused_once s e f p q = refused_once s e f (is_refused s e p) (is_refused s f q)

-- so it is read in one way
read_once : (s : List ℕ) (a b : Result (Option IpFragmentSlice) IpSliceError) → ReadsIpFragment s a → ReadsIpFragment s b → ip_fragment_answer a ≡ ip_fragment_answer b
read_once s (Ok (Some f)) (Ok (Some g)) p q = ap (λ x. Ok (Some x)) (fragment_once s f g p q)
read_once s (Ok (Some f)) (Ok None) p q = absurd (fragment_not_whole s f p q)
read_once s (Ok (Some f)) (Err e) p q = absurd (fragment_not_refused s f e p q)
read_once s (Ok None) (Ok (Some g)) p q = absurd (fragment_not_whole s g q p)
read_once s (Ok None) (Ok None) p q = refl
read_once s (Ok None) (Err e) p q = absurd (whole_not_refused s e p q)
read_once s (Err e) (Ok (Some g)) p q = absurd (fragment_not_refused s g e q p)
read_once s (Err e) (Ok None) p q = absurd (whole_not_refused s e q p)
read_once s (Err e) (Err f) p q = ap Err (fragment_refused_once s e f p q)

-- and no other answer says something else
pub only_this : (s : List ℕ) (r : Result (Option IpFragmentSlice) IpSliceError) → IfOk r (λ found. IfSome found (HasIpFragment s)) → IfOk r (λ found. IfNone found (IsNoFragment s)) → IfErr r (RefusesIpFragment s)
    → (other : Result (Option IpFragmentSlice) IpSliceError) → ReadsIpFragment s other → ip_fragment_answer other ≡ ip_fragment_answer r
only_this s r found none refused other reads = read_once s other r reads (grind arith)
