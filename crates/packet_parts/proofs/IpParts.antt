-- A packet has one list of parts, and one reason to be refused.
use Rattle.std.proofs.Common.{ℕ, ◌≡◌, ◌==◌, ◌+◌, ◌-◌, false, true, List, [], ◌++◌, length, take, drop, not, option_map, refl, sym, ap, ◌∙◌, subst, arith, take-append-drop, append_assoc, append-nil, if◌then◌else◌}
use Rattle.std.proofs.Math.Seq.{take-append-add}
use Rattle.std.proofs.lemmas.Grind.{common_steps}
use Rattle.std.proofs.lemmas.List.{append_cancel_right, drop_at, take_rest}
use Rattle.etherparse.proofs.Fronts.{TellsHeaders}
use Rattle.etherparse.proofs.Ipv4Reading.{tells_headers as tells_ipv4}
use Rattle.etherparse.proofs.Ipv6Reading.{tells_headers as tells_ipv6}
use Rattle.etherparse.proofs.Ipv6Layout.{word_of-layout}
use Rattle.etherparse.specs.FirstByte.{version_of}
use Rattle.etherparse.specs.Ipv4Header.{IsIpv4Layout, RefusesIpv4}
use Rattle.etherparse.specs.Ipv6Header.{IsIpv6Layout, RefusesIpv6}
use Rattle.etherparse.specs.Reading.{BeginsWith}
use Rattle.etherparse.specs.declared.net.ipv4_header.Ipv4Header.{Ipv4Header}
use Rattle.etherparse.specs.declared.net.ipv4_header_slice.Ipv4HeaderSlice.{Ipv4HeaderSlice}
use Rattle.etherparse.specs.declared.net.ipv6_header.Ipv6Header.{Ipv6Header}
use Rattle.etherparse.specs.declared.net.ipv6_header_slice.Ipv6HeaderSlice.{Ipv6HeaderSlice}
use Rattle.packet_parts.proofs.ExtensionEnds.{one_end, same_beginning}
use Rattle.packet_parts.specs.Extensions.{EndsAs}
use Rattle.packet_parts.specs.IpSlice.{HasIpParts, HasIpv4Parts, HasIpv6Parts, HasPartsWith, Ipv4Bytes, Ipv6Bytes, header_parts, ip_parts, ipv4_bytes, ipv4_fragment_of, ipv6_bytes, ipv6_packet_len, ipv6_trimmed, packet_len_of, placed, says_no_length}
use Rattle.packet_parts.specs.declared.ip_slice.IpHeaderSlice.{IpHeaderSlice}
use Rattle.packet_parts.specs.declared.ip_slice.IpHeaderSlice.TheVariants as header
use Rattle.packet_parts.specs.declared.ip_slice.IpSlice.{IpSlice}

-- a slice whose front begins with a header begins with it too
pub longer : {H : Type 0} (Layout : H → List ℕ → Type 0) (s t more : List ℕ) (h : H) (x : List ℕ) → s ≡ t ++ more → BeginsWith Layout t h x → BeginsWith Layout s h (x ++ more)
longer Layout s t more h x e b = record { front = b.front; whole = e ∙ ap (λ y. y ++ more) b.whole ∙ append_assoc b.front x more; layout = b.layout }

-- a header that tells how many bytes count is one, and what follows it among these
pub same_cut_beginning : {H E : Type 0} (Layout : H → List ℕ → Type 0) (Refuses : List ℕ → E → Type 0) → TellsHeaders Layout Refuses
    → (cut : H → List ℕ → List ℕ) → ((h : H) (s : List ℕ) → (more : List ℕ) × (s ≡ cut h s ++ more))
    → (s : List ℕ) (g h : H) (x y : List ℕ) → BeginsWith Layout (cut g s) g x → BeginsWith Layout (cut h s) h y → (g ≡ h) × (x ≡ y)
same_cut_beginning Layout Refuses tells cut front s g h x y p q =
    let same = (same_beginning Layout Refuses tells s g h _ _ (longer Layout s (cut g s) (front g s).0 g x (front g s).1 p) (longer Layout s (cut h s) (front h s).0 h y (front h s).1 q)).0 in
    (same, (same_beginning Layout Refuses tells (cut h s) h h x y (subst (λ k. BeginsWith Layout (cut k s) k x) same p) q).1)

pub ipv4_front : (h : Ipv4Header) (s : List ℕ) → (more : List ℕ) × (s ≡ ipv4_bytes h s ++ more)
ipv4_front h s = elim (h.total_len == 0) as (λ b. (more : List ℕ) × (s ≡ (if b then s else take h.total_len s) ++ more)) [
  | true ↦ ([], sym (append-nil s))
  | false ↦ (drop h.total_len s, sym (take-append-drop h.total_len s))
]

pub trimmed_front : (h : Ipv6Header) (s : List ℕ) → (more : List ℕ) × (s ≡ ipv6_trimmed h s ++ more)
trimmed_front h s = (drop (40 + h.payload_length) s, sym (take-append-drop (40 + h.payload_length) s))

pub ipv6_front : (h : Ipv6Header) (s : List ℕ) → (more : List ℕ) × (s ≡ ipv6_bytes h s ++ more)
ipv6_front h s = elim (says_no_length h.payload_length h.next_header) as (λ b. (more : List ℕ) × (s ≡ (if b then s else ipv6_trimmed h s) ++ more)) [
  | true ↦ ([], sym (append-nil s))
  | false ↦ trimmed_front h s
]

-- a slice with a header has its version, and bytes
pub is_version_4 : (s : List ℕ) (h : Ipv4Header) (x : List ℕ) → BeginsWith IsIpv4Layout s h x → version_of s ≡ 4
is_version_4 s h x b = grind (arith, common_steps, ap version_of b.whole)

pub is_version_6 : (s : List ℕ) (h : Ipv6Header) (x : List ℕ) → BeginsWith IsIpv6Layout s h x → version_of s ≡ 6
is_version_6 s h x b = let word = word_of-layout h b.front b.layout in grind (arith, common_steps, ap version_of b.whole)

-- what follows a front of this length
pub rest_is : (n : ℕ) (s front rest : List ℕ) → s ≡ front ++ rest → length front ≡ n → take (length s - n) (drop n s) ≡ rest
rest_is n s front rest whole len = take_rest s n ∙ ap (drop n) whole ∙ drop_at front rest n len

-- what a slice is cut at some bytes after its front
pub cut_front : (s front rest : List ℕ) (n len : ℕ) → s ≡ front ++ rest → length front + n ≡ len → take len s ≡ front ++ take n rest
cut_front s front rest n len whole sum = ap (take len) whole ∙ rw (sym sum) (take-append-add front rest n)

-- the length field of a header of these bytes
pub packet_len_4 : (view : Ipv4HeaderSlice) (h : Ipv4Header) (front : List ℕ) → IsIpv4Layout h front → front ≡ view.slice.now → packet_len_of (header.Ipv4 view) ≡ h.total_len
packet_len_4 view h front l e = rw e at l.layout.total_len

pub packet_len_6 : (view : Ipv6HeaderSlice) (h : Ipv6Header) (front : List ℕ) → IsIpv6Layout h front → front ≡ view.slice.now → packet_len_of (header.Ipv6 view) ≡ ipv6_packet_len h.payload_length h.next_header
packet_len_6 view h front l e = rw (← e, l.payload_length, l.next_header) refl

-- a packet that has parts begins with their header
pub begins_4 : (s bytes : List ℕ) (a : IpSlice) (p : HasIpv4Parts s bytes a) → BeginsWith IsIpv4Layout s p.header (a.payload.now ++ (ipv4_front p.header s).0)
begins_4 s bytes a p = longer IsIpv4Layout s _ _ p.header a.payload.now (ipv4_front p.header s).1 p.begins

pub begins_6 : (s bytes : List ℕ) (a : IpSlice) (p : HasIpv6Parts s bytes a) → BeginsWith IsIpv6Layout s p.header (p.body ++ (ipv6_front p.header s).0)
begins_6 s bytes a p = longer IsIpv6Layout s _ _ p.header p.body (ipv6_front p.header s).1 p.begins

-- one front and one rest, of one header
same_front : {H : Type 0} (Layout : H → List ℕ → Type 0) (s t : List ℕ) (g h : H) (x y : List ℕ) (p : BeginsWith Layout s g x) (q : BeginsWith Layout t h y) → s ≡ t → x ≡ y → p.front ≡ q.front
same_front Layout s t g h x y p q e rest = append_cancel_right p.front q.front y (ap (λ z. p.front ++ z) (sym rest) ∙ sym p.whole ∙ e ∙ q.whole)

-- parts that are equal, one by one
joined : (a b : IpSlice) → header_parts a.header ≡ header_parts b.header → a.extensions.now ≡ b.extensions.now → a.fragment ≡ b.fragment
    → a.is_later_fragment ≡ b.is_later_fragment → a.upper ≡ b.upper → a.payload.now ≡ b.payload.now → ip_parts a ≡ ip_parts b
joined a b header extensions fragment later upper payload = rw (header, extensions, fragment, later, upper, payload) refl

parts_4 : (s v w : List ℕ) (a b : IpSlice) → header_parts a.header ≡ Ipv4Bytes v → header_parts b.header ≡ Ipv4Bytes w → HasIpv4Parts s v a → HasIpv4Parts s w b → ip_parts a ≡ ip_parts b
parts_4 s v w a b is_a is_b p q =
    let same = same_cut_beginning IsIpv4Layout RefusesIpv4 tells_ipv4 ipv4_bytes ipv4_front s p.header q.header a.payload.now b.payload.now p.begins q.begins in
    let fronts = same_front IsIpv4Layout _ _ p.header q.header _ _ p.begins q.begins (ap (λ h. ipv4_bytes h s) same.0) same.1 in
    joined a b (is_a ∙ ap Ipv4Bytes (sym p.view ∙ fronts ∙ q.view) ∙ sym is_b) (p.no_extensions ∙ sym q.no_extensions) (p.fragment ∙ ap ipv4_fragment_of same.0 ∙ sym q.fragment)
    (p.is_later ∙ ap (λ h. not (h.fragment_offset == 0)) same.0 ∙ sym q.is_later) (p.upper ∙ ap (λ h. h.protocol) same.0 ∙ sym q.upper) same.1

parts_6 : (s v w : List ℕ) (a b : IpSlice) → header_parts a.header ≡ Ipv6Bytes v → header_parts b.header ≡ Ipv6Bytes w → HasIpv6Parts s v a → HasIpv6Parts s w b → ip_parts a ≡ ip_parts b
parts_6 s v w a b is_a is_b p q =
    let same = same_cut_beginning IsIpv6Layout RefusesIpv6 tells_ipv6 ipv6_bytes ipv6_front s p.header q.header p.body q.body p.begins q.begins in
    let fronts = same_front IsIpv6Layout _ _ p.header q.header _ _ p.begins q.begins (ap (λ h. ipv6_bytes h s) same.0) same.1 in
    let ends : EndsAs a.is_later_fragment p.incomplete q.body q.header.next_header p.decided a.upper a.payload.now =
    subst (λ z. EndsAs a.is_later_fragment p.incomplete z q.header.next_header p.decided a.upper a.payload.now) same.1
    (subst (λ k. EndsAs a.is_later_fragment p.incomplete p.body k.next_header p.decided a.upper a.payload.now) same.0 p.ends) in
    let end = one_end q.body q.header.next_header a.is_later_fragment b.is_later_fragment p.incomplete q.incomplete p.decided q.decided a.upper b.upper a.payload.now b.payload.now ends q.ends in
    let before = append_cancel_right a.extensions.now b.extensions.now b.payload.now (ap (λ z. a.extensions.now ++ z) (sym end.rest) ∙ sym p.parts ∙ same.1 ∙ q.parts) in
    joined a b (is_a ∙ ap Ipv6Bytes (sym p.view ∙ fronts ∙ q.view) ∙ sym is_b) before (p.fragment ∙ ap (option_map placed) end.decided ∙ sym q.fragment) end.later end.number end.rest

-- a packet has one list of parts
after_headers : (s : List ℕ) (a b : IpSlice) (h k : IpHeaderSlice) → a.header ≡ h → b.header ≡ k → HasPartsWith h s a → HasPartsWith k s b → ip_parts a ≡ ip_parts b
after_headers s a b (header.Ipv4 v) (header.Ipv4 w) is_a is_b p q = parts_4 s v.slice.now w.slice.now a b (ap header_parts is_a) (ap header_parts is_b) p q
after_headers s a b (header.Ipv6 v) (header.Ipv6 w) is_a is_b p q = parts_6 s v.slice.now w.slice.now a b (ap header_parts is_a) (ap header_parts is_b) p q
after_headers s a b (header.Ipv4 v) (header.Ipv6 w) is_a is_b p q = absurd (omega (arith, is_version_4 s p.header _ (begins_4 s _ a p), is_version_6 s q.header _ (begins_6 s _ b q)))
after_headers s a b (header.Ipv6 v) (header.Ipv4 w) is_a is_b p q = absurd (omega (arith, is_version_4 s q.header _ (begins_4 s _ b q), is_version_6 s p.header _ (begins_6 s _ a p)))

pub same_parts : (s : List ℕ) (a b : IpSlice) → HasIpParts s a → HasIpParts s b → ip_parts a ≡ ip_parts b
same_parts s a b p q = after_headers s a b a.header b.header refl refl p q
