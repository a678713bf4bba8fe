-- A packet has one reason to be refused, and one with parts or a whole one has none.
use Rattle.std.proofs.Common.{ℕ, false, IsTrue, ◌≡◌, ◌≢◌, ◌==◌, ◌+◌, ◌<◌, ◌≤◌, ◌⊎◌, List, length, refl, sym, ap, ◌∙◌, subst, arith, Option, None, Some, Ok, Err, Result, length-append, inl, inr, if◌then◌else◌}
use Rattle.std.proofs.lemmas.Bool.Decides.{nat_tests}
use Rattle.std.proofs.lemmas.Grind.{common_steps}
use Rattle.etherparse.proofs.Fronts.{read_once}
use Rattle.etherparse.proofs.Ipv4Reading.{tells_headers as tells_ipv4}
use Rattle.etherparse.proofs.Ipv6Reading.{tells_headers as tells_ipv6}
use Rattle.etherparse.specs.FirstByte.{version_of}
use Rattle.etherparse.specs.Ipv4Header.{IsIpv4Layout, Ipv4Reading, ReadsIpv4, RefusesIpv4, ipv4_header_len, ipv4_payload_len}
use Rattle.etherparse.specs.Ipv6Header.{IsIpv6Layout, Ipv6Reading, ReadsIpv6, RefusesIpv6}
use Rattle.etherparse.specs.Reading.{BeginsWith, too_short_error}
use Rattle.etherparse.specs.declared.err.Layer.TheVariants as layer
use Rattle.etherparse.specs.declared.err.LenError.{LenError}
use Rattle.etherparse.specs.declared.net.ipv4_header.Ipv4Header.{Ipv4Header as Header4}
use Rattle.etherparse.specs.declared.net.ipv4_header_slice.Ipv4HeaderSlice.{Ipv4HeaderSlice}
use Rattle.etherparse.specs.declared.net.ipv6_header.Ipv6Header.{Ipv6Header as Header6}
use Rattle.etherparse.specs.declared.net.ipv6_header_slice.Ipv6HeaderSlice.{Ipv6HeaderSlice}
use Rattle.etherparse.specs.ExtensionHeaders.{IsSkippable}
use Rattle.packet_parts.proofs.ExtensionEnds.{one_end, same_beginning}
use Rattle.packet_parts.proofs.IpParts.{begins_4, begins_6, is_version_4, is_version_6, longer, packet_len_4, packet_len_6, same_cut_beginning, same_parts, trimmed_front}
use Rattle.packet_parts.proofs.IpPackets.{ipv6_bytes-told, ipv6_packet_len-told}
use Rattle.packet_parts.specs.Extensions.{EndsAs}
use Rattle.packet_parts.specs.IpSlice.{EndsInExtensions, HasIpParts, HasIpv4Parts, HasIpv6Parts, HasLaxIpParts, HasNoIpParts, HasPartsWith, HasWholeHeaders, IsWhole, ReadsIp, ReadsLaxIp, RefusesIp, extension_error, ip_answer, ip_parts, ipv4_bytes, ipv6_packet_len, ipv6_trimmed, lax_ip_answer, packet_len_of}
use Rattle.packet_parts.specs.declared.ip_slice.IpHeaderSlice.{IpHeaderSlice}
use Rattle.packet_parts.specs.declared.ip_slice.IpHeaderSlice.TheVariants as header
use Rattle.packet_parts.specs.declared.ip_slice.IpSlice.{IpSlice}
use Rattle.packet_parts.specs.declared.ip_slice.IpSliceError.{IpSliceError}
use Rattle.packet_parts.specs.declared.ip_slice.LaxIpSlice.{LaxIpSlice}
use Rattle.packet_parts.specs.declared.ip_slice.IpSliceError.TheVariants.{Empty, Extensions, Ipv4Header, Ipv6Header, Packet, UnexpectedVersion}

-- an extension header is incomplete in one way
same_extensions : (s : List ℕ) (e f : LenError) → EndsInExtensions s e → EndsInExtensions s f → e ≡ f
same_extensions s e f p q =
    let same = same_cut_beginning IsIpv6Layout RefusesIpv6 tells_ipv6 ipv6_trimmed trimmed_front s p.header q.header p.body q.body p.begins q.begins in
    let ends : EndsAs false (Some p.inside) q.body q.header.next_header p.fragment p.number p.rest = subst (λ z. EndsAs false (Some p.inside) z q.header.next_header p.fragment p.number p.rest) same.1
    (subst (λ k. EndsAs false (Some p.inside) p.body k.next_header p.fragment p.number p.rest) same.0 p.ends) in
    let inside : p.inside ≡ q.inside = let end = (one_end q.body q.header.next_header false false (Some p.inside) (Some q.inside) p.fragment q.fragment p.number q.number p.rest q.rest ends q.ends).incomplete in cc in
    p.moved ∙ ap extension_error inside ∙ sym q.moved

-- the error that a total length makes: what it states itself, or else that there are fewer bytes
abbrev stated : Result ℕ LenError → LenError → LenError
stated (Ok n) e = e
stated (Err f) e = f

-- the reason of a packet of version 4, by its header or the reason why there is none, and its length
abbrev error_4 : ℕ → Ipv4Reading → IpSliceError
error_4 n (Err e) = Ipv4Header e
error_4 n (Ok x) = Packet (stated (ipv4_payload_len x.0) (too_short_error layer.Ipv4Packet x.0.total_len n))

abbrev Fails4 : ℕ → Ipv4Reading → Type 0
Fails4 n (Err e) = Unit {0}
Fails4 n (Ok x) = (x.0.total_len < ipv4_header_len x.0) ⊎ (n < x.0.total_len)

record Reason4 (s : List ℕ) (e : IpSliceError) : Type 0 where
  some : 0 < length s
  version : version_of s ≡ 4
  answer : Ipv4Reading
  reads : ReadsIpv4 s answer
  fails : Fails4 (length s) answer
  is : e ≡ error_4 (length s) answer

-- the same of version 6
abbrev Is6 : List ℕ → IpSliceError → Ipv6Reading → Type 0
Is6 s e (Err x) = e ≡ Ipv6Header x
Is6 s e (Ok x) = ((length s < 40 + x.0.payload_length) × (e ≡ Packet (too_short_error layer.Ipv6Packet (40 + x.0.payload_length) (length s))))
    ⊎ ((y : LenError) × (40 + x.0.payload_length ≤ length s) × EndsInExtensions s y × (e ≡ Extensions y))

record Reason6 (s : List ℕ) (e : IpSliceError) : Type 0 where
  some : 0 < length s
  version : version_of s ≡ 6
  answer : Ipv6Reading
  reads : ReadsIpv6 s answer
  is : Is6 s e answer

-- the reason of a packet of no version
record ReasonOther (s : List ℕ) (e : IpSliceError) : Type 0 where
  other : 0 < length s → (version_of s ≢ 4) × (version_of s ≢ 6)
  is : e ≡ (if length s == 0 then Empty (too_short_error layer.IpHeader 1 0) else UnexpectedVersion (version_of s))

payload_len_stated : (h : Header4) (e : LenError) → ipv4_payload_len h ≡ Err e → h.total_len < ipv4_header_len h
payload_len_stated h e says = grind (arith, nat_tests)

payload_len_fits : (h : Header4) (e : LenError) → ipv4_header_len h ≤ h.total_len → stated (ipv4_payload_len h) e ≡ e
payload_len_fits h e fits = grind (arith, nat_tests)

header_4_fits : (s : List ℕ) (h : Header4) (x : List ℕ) → BeginsWith IsIpv4Layout s h x → (ipv4_header_len h ≤ length s) × (0 < length s)
header_4_fits s h x b = (omega (arith, ap length b.whole, length-append {A = ℕ}, b.layout.layout.len), omega (arith, ap length b.whole, length-append {A = ℕ}, b.layout.layout.len))

reason : (s : List ℕ) (e : IpSliceError) → RefusesIp s e → ReasonOther s e ⊎ Reason4 s e ⊎ Reason6 s e
reason s (Empty e) r = inl (record { other = λ some. absurd (omega (arith, r.0, some)); is = rw r.0 (ap Empty r.1) })
reason s (UnexpectedVersion version) (some, is, not_4, not_6) = inl (record { other = λ _. (λ v. not_4 (is ∙ v), λ v. not_6 (is ∙ v)); is = grind (arith, nat_tests) })
reason s (Ipv4Header e) (some, is, r) = inr (inl (record { some = some; version = is; answer = Err e; reads = r; fails = tt; is = refl }))
reason s (Ipv6Header e) (some, is, r) = inr (inr (record { some = some; version = is; answer = Err e; reads = r; is = refl }))
reason s (Packet e) (inl r) = inr (inl (record {
  some = (header_4_fits s r.header r.rest r.begins).1;
  version = is_version_4 s r.header r.rest r.begins;
  answer = Ok (r.header, r.rest);
  reads = r.begins;
  fails = inl (payload_len_stated r.header e r.says);
  is = ap Packet (ap (λ x. stated x (too_short_error layer.Ipv4Packet r.header.total_len (length s))) (sym r.says));
}))
reason s (Packet e) (inr (inl r)) =
    let fits = header_4_fits s r.header r.rest r.begins in
    inr (inl (record {
      some = fits.1;
      version = is_version_4 s r.header r.rest r.begins;
      answer = Ok (r.header, r.rest);
      reads = r.begins;
      fails = inr r.short;
      is = ap Packet (r.error ∙ sym (payload_len_fits r.header _ (omega (arith, fits.0, r.short))));
    }))
reason s (Packet e) (inr (inr r)) = inr (inr (record {
  some = omega (arith, ap length r.begins.whole, length-append {A = ℕ}, r.begins.layout.len);
  version = is_version_6 s r.header r.rest r.begins;
  answer = Ok (r.header, r.rest);
  reads = r.begins;
  is = inl (r.short, ap Packet r.error);
}))
reason s (Extensions e) r =
    let begins = longer IsIpv6Layout s _ _ r.header r.body (trimmed_front r.header s).1 r.begins in
    inr (inr (record {
      some = omega (arith, r.enough);
      version = is_version_6 s r.header _ begins;
      answer = Ok (r.header, _);
      reads = begins;
      is = inr (e, r.enough, r, refl);
    }))

same_6 : (s : List ℕ) (e f : IpSliceError) (a : Ipv6Reading) → Is6 s e a → Is6 s f a → e ≡ f
same_6 s e f (Err x) p q = p ∙ sym q
same_6 s e f (Ok x) (inl p) (inl q) = p.1 ∙ sym q.1
same_6 s e f (Ok x) (inl p) (inr q) = absurd (omega (arith, p.0, q.1))
same_6 s e f (Ok x) (inr p) (inl q) = absurd (omega (arith, q.0, p.1))
same_6 s e f (Ok x) (inr p) (inr q) = p.3 ∙ ap Extensions (same_extensions s p.0 q.0 p.2 q.2) ∙ sym q.3

same_reason : (s : List ℕ) (e f : IpSliceError) → ReasonOther s e ⊎ Reason4 s e ⊎ Reason6 s e → ReasonOther s f ⊎ Reason4 s f ⊎ Reason6 s f → e ≡ f
same_reason s e f (inl p) (inl q) = p.is ∙ sym q.is
same_reason s e f (inr (inl p)) (inr (inl q)) =
    p.is ∙ ap (error_4 (length s)) (read_once IsIpv4Layout RefusesIpv4 tells_ipv4 s p.answer q.answer p.reads q.reads) ∙ sym q.is
same_reason s e f (inr (inr p)) (inr (inr q)) =
    same_6 s e f q.answer (subst (Is6 s e) (read_once IsIpv6Layout RefusesIpv6 tells_ipv6 s p.answer q.answer p.reads q.reads) p.is) q.is
same_reason s e f (inl p) (inr (inl q)) = absurd ((p.other q.some).0 q.version)
same_reason s e f (inl p) (inr (inr q)) = absurd ((p.other q.some).1 q.version)
same_reason s e f (inr (inl p)) (inl q) = absurd ((q.other p.some).0 p.version)
same_reason s e f (inr (inr p)) (inl q) = absurd ((q.other p.some).1 p.version)
same_reason s e f (inr (inl p)) (inr (inr q)) = absurd (omega (arith, p.version, q.version))
same_reason s e f (inr (inr p)) (inr (inl q)) = absurd (omega (arith, p.version, q.version))

-- a packet is refused for one reason
pub refused_once : (s : List ℕ) (e f : IpSliceError) → RefusesIp s e → RefusesIp s f → e ≡ f
refused_once s e f p q = same_reason s e f (reason s e p) (reason s f q)

-- what has no parts is refused
pub no_parts_refused : (s : List ℕ) (e : IpSliceError) → HasNoIpParts s e → RefusesIp s e
no_parts_refused s (Empty e) p = p
no_parts_refused s (UnexpectedVersion version) p = p
no_parts_refused s (Ipv4Header e) p = p
no_parts_refused s (Ipv6Header e) p = p
no_parts_refused s (Packet e) p = inl p.states
no_parts_refused s (Extensions e) p = absurd p

-- a packet that begins with a header is refused for a reason that this header gives
fails_4 : (s : List ℕ) (h : Header4) (x : List ℕ) (e : IpSliceError) → BeginsWith IsIpv4Layout s h x → RefusesIp s e → Fails4 (length s) (Ok (h, x))
fails_4 s h x e b r = elim (reason s e r) [
  | inl o ↦ absurd ((o.other (header_4_fits s h x b).1).0 (is_version_4 s h x b))
  | inr (inl o) ↦ subst (Fails4 (length s)) (read_once IsIpv4Layout RefusesIpv4 tells_ipv4 s o.answer (Ok (h, x)) o.reads b) o.fails
  | inr (inr o) ↦ absurd (omega (arith, is_version_4 s h x b, o.version))
]

fails_6 : (s : List ℕ) (h : Header6) (x : List ℕ) (e : IpSliceError) → BeginsWith IsIpv6Layout s h x → RefusesIp s e → Is6 s e (Ok (h, x))
fails_6 s h x e b r = elim (reason s e r) [
  | inl o ↦ absurd ((o.other (omega (arith, ap length b.whole, length-append {A = ℕ}, b.layout.len))).1 (is_version_6 s h x b))
  | inr (inl o) ↦ absurd (omega (arith, is_version_6 s h x b, o.version))
  | inr (inr o) ↦ subst (Is6 s e) (read_once IsIpv6Layout RefusesIpv6 tells_ipv6 s o.answer (Ok (h, x)) o.reads b) o.is
]

-- a header is within the total length that it tells
header_4_told : (s : List ℕ) (h : Header4) (x : List ℕ) → BeginsWith IsIpv4Layout (ipv4_bytes h s) h x → h.total_len ≢ 0 → ipv4_header_len h ≤ h.total_len
header_4_told s h x p some =
    let told : length (ipv4_bytes h s) ≤ h.total_len = grind (arith, common_steps, nat_tests) in
    omega (arith, told, ap length p.whole, length-append {A = ℕ}, p.layout.layout.len)

no_parts_4 : (s : List ℕ) (h : Header4) (x : List ℕ) (e : IpSliceError) → BeginsWith IsIpv4Layout s h x → (h.total_len ≢ 0 → ipv4_header_len h ≤ h.total_len) → HasNoIpParts s e → ⊥
no_parts_4 s h x (Empty e) b told r = omega (arith, (header_4_fits s h x b).1, r.0)
no_parts_4 s h x (UnexpectedVersion version) b told r = r.2 (r.1 ∙ is_version_4 s h x b)
no_parts_4 s h x (Ipv4Header e) b told r = tells_ipv4.not_refused s h x e b r.2
no_parts_4 s h x (Ipv6Header e) b told r = omega (arith, is_version_4 s h x b, r.1)
no_parts_4 s h x (Packet e) b told r =
    let same = (same_beginning IsIpv4Layout RefusesIpv4 tells_ipv4 s r.states.header h r.states.rest x r.states.begins b).0 in
    let fits = told (λ zero. r.some (ap (λ k. k.total_len) same ∙ zero)) in
    omega (arith, fits, payload_len_stated h e (subst (λ k. ipv4_payload_len k ≡ Err e) same r.states.says))
no_parts_4 s h x (Extensions e) b told r = r

-- a whole packet is not refused
whole_4 : (s : List ℕ) (view : Ipv4HeaderSlice) (a : IpSlice) (e : IpSliceError) → HasIpv4Parts s view.slice.now a → packet_len_of (header.Ipv4 view) ≢ 0
    → packet_len_of (header.Ipv4 view) ≤ length s → RefusesIp s e → ⊥
whole_4 s view a e p told enough r =
    let is = packet_len_4 view p.header p.begins.front p.begins.layout p.view in
    let fits = header_4_told s p.header a.payload.now p.begins (λ zero. told (is ∙ zero)) in
    elim (fails_4 s p.header _ e (begins_4 s _ a p) r) [ inl less ↦ omega (arith, fits, less) | inr short ↦ omega (arith, is, enough, short) ]

whole_6 : (s : List ℕ) (view : Ipv6HeaderSlice) (a : IpSlice) (e : IpSliceError) → HasIpv6Parts s view.slice.now a → packet_len_of (header.Ipv6 view) ≢ 0
    → packet_len_of (header.Ipv6 view) ≤ length s → IsTrue a.is_later_fragment ⊎ ¬ IsSkippable a.upper → RefusesIp s e → ⊥
whole_6 s view a e p told enough headers r =
    let len = packet_len_6 view p.header p.begins.front p.begins.layout p.view in
    let some : ipv6_packet_len p.header.payload_length p.header.next_header ≢ 0 = λ zero. told (len ∙ zero) in
    elim (fails_6 s p.header _ e (begins_6 s _ a p) r) [
      | inl short ↦ omega (arith, len, ipv6_packet_len-told p.header.payload_length p.header.next_header some, enough, short.0)
      | inr (y, within, q, is) ↦
          let trimmed : BeginsWith IsIpv6Layout (ipv6_trimmed p.header s) p.header p.body = record { front = p.begins.front; whole = ipv6_bytes-told p.header s some ∙ p.begins.whole; layout = p.begins.layout } in
          let same = same_cut_beginning IsIpv6Layout RefusesIpv6 tells_ipv6 ipv6_trimmed trimmed_front s p.header q.header p.body q.body trimmed q.begins in
          let ends : EndsAs a.is_later_fragment p.incomplete q.body q.header.next_header p.decided a.upper a.payload.now =
          subst (λ z. EndsAs a.is_later_fragment p.incomplete z q.header.next_header p.decided a.upper a.payload.now) same.1
          (subst (λ k. EndsAs a.is_later_fragment p.incomplete p.body k.next_header p.decided a.upper a.payload.now) same.0 p.ends) in
          let end = one_end q.body q.header.next_header a.is_later_fragment false p.incomplete (Some q.inside) p.decided q.fragment a.upper q.number a.payload.now q.rest ends q.ends in
          elim headers [ inl later ↦ let no : IsTrue false = subst IsTrue end.later later in cc | inr other ↦ other (subst IsSkippable (sym end.number) q.ends.0.skippable) ]
    ]

whole_after : (s : List ℕ) (a : IpSlice) (h : IpHeaderSlice) (e : IpSliceError) → HasPartsWith h s a → packet_len_of h ≢ 0 → packet_len_of h ≤ length s → HasWholeHeaders h a → RefusesIp s e → ⊥
whole_after s a (header.Ipv4 view) e p told enough headers r = whole_4 s view a e p told enough r
whole_after s a (header.Ipv6 view) e p told enough headers r = whole_6 s view a e p told enough headers r

pub whole_not_refused : (s : List ℕ) (a : IpSlice) (e : IpSliceError) → HasIpParts s a → IsWhole s a → RefusesIp s e → ⊥
whole_not_refused s a e p whole r = whole_after s a a.header e p whole.told whole.enough whole.headers r

-- a packet with parts has none of the reasons for which it would have none
parts_after : (s : List ℕ) (a : IpSlice) (h : IpHeaderSlice) (e : IpSliceError) → HasPartsWith h s a → HasNoIpParts s e → ⊥
parts_after s a (header.Ipv4 view) e p r = no_parts_4 s p.header _ e (begins_4 s _ a p) (header_4_told s p.header a.payload.now p.begins) r
parts_after s a (header.Ipv6 view) e p r =
    let begins = begins_6 s _ a p in
    elim (fails_6 s p.header _ e begins (no_parts_refused s e r)) [
      | inl short ↦ let q = subst (HasNoIpParts s) short.1 r in omega (arith, is_version_6 s p.header _ begins, is_version_4 s q.states.header _ q.states.begins)
      | inr later ↦ subst (HasNoIpParts s) later.3 r
    ]

pub parts_not_refused : (s : List ℕ) (a : IpSlice) (e : IpSliceError) → HasIpParts s a → HasNoIpParts s e → ⊥
parts_not_refused s a e p r = parts_after s a a.header e p r

-- a packet is read in one way as far as it goes
pub lax_once : (s : List ℕ) (a b : IpSlice) (i j : Option IpSliceError) → HasLaxIpParts s (record { slice = a; stop = i }) → HasLaxIpParts s (record { slice = b; stop = j })
    → (ip_parts a ≡ ip_parts b) × (i ≡ j)
lax_once s a b None None p q = (same_parts s a b p.parts q.parts, refl)
lax_once s a b (Some e) (Some f) p q = (same_parts s a b p.parts q.parts, ap Some (refused_once s e f p.stop q.stop))
lax_once s a b None (Some e) p q = absurd (whole_not_refused s a e p.parts p.stop q.stop)
lax_once s a b (Some e) None p q = absurd (whole_not_refused s b e q.parts q.stop p.stop)

-- so slicing has one answer, and slicing as far as it goes
pub sliced_once : (s : List ℕ) (a b : Result IpSlice IpSliceError) → ReadsIp s a → ReadsIp s b → ip_answer a ≡ ip_answer b
sliced_once s (Ok a) (Ok b) p q = ap Ok (same_parts s a b p.parts q.parts)
sliced_once s (Err e) (Err f) p q = ap Err (refused_once s e f p q)
sliced_once s (Ok a) (Err e) p q = absurd (whole_not_refused s a e p.parts p.whole q)
sliced_once s (Err e) (Ok a) p q = absurd (whole_not_refused s a e q.parts q.whole p)

pub lax_sliced_once : (s : List ℕ) (a b : Result LaxIpSlice IpSliceError) → ReadsLaxIp s a → ReadsLaxIp s b → lax_ip_answer a ≡ lax_ip_answer b
lax_sliced_once s (Ok a) (Ok b) p q = let same = lax_once s a.slice b.slice a.stop b.stop p q in rw (same.0, same.1) refl
lax_sliced_once s (Err e) (Err f) p q = ap Err (refused_once s e f (no_parts_refused s e p) (no_parts_refused s f q))
lax_sliced_once s (Ok a) (Err e) p q = absurd (parts_not_refused s a.slice e p.parts q)
lax_sliced_once s (Err e) (Ok a) p q = absurd (parts_not_refused s a.slice e q.parts p)
