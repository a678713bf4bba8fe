-- extension headers, one after the other, up to the one place where a fragment header decides or there is none
use Rattle.std.proofs.Common.{ℕ, ◌≡◌, ◌+◌, ◌-◌, ◌<◌, ◌≤◌, ◌++◌, [], ◌∷◌, IsTrue, List, None, Option, length, arith, ap, append_assoc, drop, drop_at, false, get_or, length-append, length-drop, refl, rules, slice_index, slice_range, subst, sym, take, take_at, ◌∙◌}
use Rattle.std.specs.Option.{option_or}
use Rattle.std.proofs.Math.ListN.{get_or-append}
use Rattle.std.proofs.Math.Seq.{drop-append_seam, take-add}
use Rattle.std.proofs.lemmas.Bool.Decides.{nat_tests}
use Rattle.std.proofs.lemmas.Grind.{common_steps}
use Rattle.std.proofs.lemmas.List.Folds.{concat-append}
use Rattle.std.specs.List.{concat}
use Rattle.std.proofs.lemmas.List.{append-nil, drop-drop, get_or-take, length-take-le}
use Rattle.etherparse.proofs.ExtensionHeaderChain.{whole_in_front}
use Rattle.etherparse.proofs.Fronts.{TellsHeaders, fixed_tells}
use Rattle.etherparse.specs.ExtensionHeaderChain.{FollowsChain, IsExtensionHeader, IsExtensionHeaderChain, extension_header_len, required_len_of}
use Rattle.etherparse.specs.ExtensionHeaders.{IsSkippable}
use Rattle.etherparse.specs.Reading.{BeginsWith}
use Rattle.etherparse.specs.declared.err.Layer.TheVariants as layer
use Rattle.packet_parts.proofs.ExtensionEnds.{same_beginning}
use Rattle.packet_parts.specs.Extensions.{EndsInHeader, Passes, after_fragment, after_other, at_front, deciding}
use Rattle.etherparse_net.specs.Ipv6FragmentHeader.{IsFragmentLayout, RefusesFragment, is_part}
use Rattle.etherparse_net.specs.declared.ipv6_fragment_header.Ipv6FragmentHeader.{Ipv6FragmentHeader}
use Rattle.packet_reassembly.specs.Ipv6Fragment.{AreFragmentParts, HasNoFragment}
use Rattle.packet_reassembly.specs.Packet.{AreUnfragmentable, IsChain}
use Rattle.packet_reassembly.specs.declared.ipv6_fragment.Ipv6FragmentParts.{Ipv6FragmentParts}

-- one header more of a chain
chain_one : (first : ℕ) (headers : List (List ℕ)) (header : List ℕ) (number : ℕ) → IsExtensionHeaderChain first headers number → IsExtensionHeader number header → IsExtensionHeaderChain first (headers ++ header ∷ []) (slice_index header 0)
chain_one first [] header number e h = (rw e at h, refl)
chain_one first (one ∷ headers) header number c h = (c.0, chain_one (slice_index one 0) headers header number c.1 h)

pub chain_more : (first : ℕ) (before header rest : List ℕ) (number : ℕ) → IsChain first before number → IsExtensionHeader number header → FollowsChain (before ++ (header ++ rest)) first (slice_index header 0) rest
chain_more first before header rest number c h =
    let chain = chain_one first c.headers header number c.begins.chain h in
    let e : before ≡ concat c.headers = c.begins.whole ∙ append-nil (concat c.headers) in
    let whole : before ++ (header ++ rest) ≡ concat (c.headers ++ header ∷ []) ++ rest = rw (e, concat-append) (simp (append_assoc, append-nil)) in search (rules, chain, whole)

-- headers have been passed up to a place, the last of them from another place on
pub record IsWalked (body : List ℕ) (first last at number : ℕ) (rest : List ℕ) : Type 0 where
  pub order : last ≤ at
  pub within : at ≤ length body
  pub is : rest ≡ drop at body
  pub passes : Passes body first None number rest
  pub chain : IsChain first (take at body) number
  pub headers : AreUnfragmentable first (take last body) (slice_range body last at)

unfragmentable : (first number : ℕ) (before header : List ℕ) → IsChain first before number → IsExtensionHeader number header → 0 < length header → AreUnfragmentable first before header
unfragmentable first number before [] chain is some = absurd (omega arith)
unfragmentable first number before (byte ∷ rest) chain is some = (number, chain, is)

pub walked_none : (body : List ℕ) (first : ℕ) → IsWalked body first 0 0 first body
walked_none body first =
    let chain : IsChain first [] first = record { headers = []; begins = record { chain = refl; whole = refl } } in search (arith, at_front)

module _ {body rest : List ℕ} {first last at number : ℕ} (w : IsWalked body first last at number rest) (skippable : IsSkippable number) where
  -- one more
  pub walked_more : required_len_of number rest ≤ length rest → Passes body first None (slice_index rest 0) (drop (required_len_of number rest) rest) → (to : ℕ) → to ≡ at + required_len_of number rest
      → IsWalked body first at to (slice_index rest 0) (drop (required_len_of number rest) rest)
  walked_more fits passes to here =
      let k : ℕ = required_len_of number rest in
      let long : 8 ≤ k = grind (arith, nat_tests) in
      let len : k ≡ extension_header_len number (get_or rest 1 0) = grind (arith, nat_tests) in
      let is_header : IsExtensionHeader number (take k rest) = record { skippable = skippable; len = rw (length-take-le k rest fits, get_or-take k rest 1 0 (omega arith)) len } in
      let all : take to body ≡ take at body ++ (take k rest ++ []) = rw (append-nil, here) (rw (← w.is) at (take-add at k body)) in
      let n : to - at ≡ k = omega arith in
      let within : to ≤ length body = omega (arith, w.within, ap length w.is, length-drop at body) in
      let is = ap (drop k) w.is ∙ (drop-drop k at body ∙ ap (λ i. drop i body) (sym here)) in
      let chain : IsChain first (take to body) (slice_index rest 0) = rw (all, sym (get_or-take k rest 0 0 (omega arith))) (chain_more first (take at body) (take k rest) [] number w.chain is_header) in
      let headers : AreUnfragmentable first (take at body) (slice_range body at to) = rw (n, ← w.is) (unfragmentable first number (take at body) (take k rest) w.chain is_header (omega (arith, length-take-le k rest fits))) in
      search (arith, within, is, passes, chain, headers)

-- a fragment header is whole, and what follows it is told by its first byte and its length
fragment_next : (at : List ℕ) (h : Ipv6FragmentHeader) (x : List ℕ) → BeginsWith IsFragmentLayout at h x
    → (required_len_of 44 at ≤ length at) × (slice_index at 0 ≡ h.next_header) × (drop (required_len_of 44 at) at ≡ x)
fragment_next at h x b =
    let len = b.layout.len in
    let enough : 8 ≤ length at = omega (arith, ap length b.whole, length-append {A = ℕ}) in
    let required : required_len_of 44 at ≡ 8 = grind (arith, common_steps) in
    (omega (arith, required), rw b.whole (get_or-append b.front x 0 0 (omega arith)) ∙ b.layout.next_header, rw (required, b.whole, sym len) (drop-append_seam b.front x))

-- an atomic fragment header is passed
pub atomic_passed : (body slice rest : List ℕ) (header : Ipv6FragmentHeader) (first number : ℕ) → number ≡ 44 → BeginsWith IsFragmentLayout slice header rest → is_part header ≡ false → header.fragment_offset ≡ 0 → Passes body first None number slice → Passes body first None (slice_index slice 0) (drop (required_len_of number slice) slice)
atomic_passed body slice rest header first number is begins whole front passes =
    let (enough, named, after) = fragment_next slice header rest begins in
    let none : deciding header ≡ None = rw whole refl in
    rw (is, named, after) (rw none at (after_fragment (rw is at passes) begins front))

tells_fragment : TellsHeaders IsFragmentLayout RefusesFragment
tells_fragment = fixed_tells IsFragmentLayout layer.Ipv6FragHeader 8 (λ g h p k l. search rules) (λ h p l. l.len)

-- a slice begins with one fragment header
one_fragment : (s : List ℕ) (g h : Ipv6FragmentHeader) (x y : List ℕ) → BeginsWith IsFragmentLayout s g x → BeginsWith IsFragmentLayout s h y → (g ≡ h) × (x ≡ y)
one_fragment = same_beginning IsFragmentLayout RefusesFragment tells_fragment

-- one more header can be passed, and does not decide
record CanPass (number : ℕ) (rest : List ℕ) : Type 0 where
  skippable : IsSkippable number
  enough : required_len_of number rest ≤ length rest
  undecided : (h : Ipv6FragmentHeader) (x : List ℕ) → number ≡ 44 → BeginsWith IsFragmentLayout rest h x → is_part h ≡ false

-- such headers lead from one place to another
data Leads (m : ℕ) (t : List ℕ) : ℕ → List ℕ → Type 0 where
  there : Leads m t m t
  passed : {n : ℕ} {r : List ℕ} → CanPass n r → Leads m t (slice_index r 0) (drop (required_len_of n r) r) → Leads m t n r

further : {m : ℕ} {t : List ℕ} {n : ℕ} {r : List ℕ} → Leads m t n r → CanPass m t → Leads (slice_index t 0) (drop (required_len_of m t) t) n r
further there pass = passed pass there
further (passed before more) pass = passed before (further more pass)

-- where none has decided, none did before, nor does the last
none_before : (d : Option Ipv6FragmentHeader) (h : Ipv6FragmentHeader) → option_or d (deciding h) ≡ None → (d ≡ None) × (is_part h ≡ false)
none_before d h none = grind arith

-- headers that are passed, none of which decides, lead to the place after them
leads : {s : List ℕ} {first : ℕ} {d : Option Ipv6FragmentHeader} {n : ℕ} {r : List ℕ} → Passes s first d n r → d ≡ None → Leads n r first s
leads at_front none = there
leads (after_other p skippable other enough) none = further (leads p none) (record { skippable = skippable; enough = enough; undecided = λ h x is. absurd (other is) })
leads (after_fragment {decided = d} {at = at} {rest = x} {next = next} p b front) none =
    let (before, whole) = none_before d next none in
    let (enough, named, after) = fragment_next at next x b in
    let pass : CanPass 44 at = record { skippable = search rules; enough = enough; undecided = λ h y is f. sym (ap is_part (one_fragment at next h x y b f).0) ∙ whole } in
    rw (← named, ← after) (further (leads p before) pass)

-- two places where it stops are one
one_stop : {m : ℕ} {t : List ℕ} {k : ℕ} {u : List ℕ} {n : ℕ} {r : List ℕ} → Leads m t n r → Leads k u n r → (CanPass m t → ⊥) → (CanPass k u → ⊥) → (m ≡ k) × (t ≡ u)
one_stop there there stuck other = (refl, refl)
one_stop there (passed pass more) stuck other = absurd (stuck pass)
one_stop (passed pass more) there stuck other = absurd (other pass)
one_stop (passed pass more) (passed again rest) stuck other = one_stop more rest stuck other

-- a header that is all of some bytes is not the first of several
last_alone : (first n m : ℕ) (x others l k : List ℕ) → n ≡ first → IsExtensionHeader n l → IsExtensionHeader first x → IsExtensionHeader m k → l ≡ (x ++ others) ++ k → ⊥
last_alone first n m x others l k is h d g same =
    let one = whole_in_front first l [] (subst (λ i. IsExtensionHeader i l) is h) in
    let two = whole_in_front first x (others ++ k) d in
    let last = whole_in_front m k [] g in
    let whole : l ++ [] ≡ x ++ (others ++ k) = append-nil l ∙ same ∙ append_assoc x others k in
    let len : length l ≡ length x = one.1 ∙ ap (required_len_of first) whole ∙ sym two.1 in
    omega (arith, len, last.0, ap length same, length-append (x ++ others) k, length-append x others)

-- headers and the last one after them are split in one place
others_once : (first n m : ℕ) (hs ks : List (List ℕ)) (l k : List ℕ) → IsExtensionHeaderChain first hs n → IsExtensionHeader n l
    → IsExtensionHeaderChain first ks m → IsExtensionHeader m k → concat hs ++ l ≡ concat ks ++ k → concat hs ≡ concat ks
others_once first n m [] [] l k c h d g same = refl
others_once first n m [] (x ∷ ks) l k c h d g same = absurd (last_alone first n m x (concat ks) l k c h d.0 g same)
others_once first n m (x ∷ hs) [] l k c h d g same = absurd (last_alone first m n x (concat hs) k l d g c.0 h (sym same))
others_once first n m (x ∷ hs) (y ∷ ks) l k c h d g same =
    let one = whole_in_front first x (concat hs ++ l) c.0 in
    let two = whole_in_front first y (concat ks ++ k) d.0 in
    let whole : x ++ (concat hs ++ l) ≡ y ++ (concat ks ++ k) = sym (append_assoc x (concat hs) l) ∙ same ∙ append_assoc y (concat ks) k in
    let len : length x ≡ length y = one.1 ∙ ap (required_len_of first) whole ∙ sym two.1 in
    let front : x ≡ y = sym (take_at x (concat hs ++ l) (length x) refl) ∙ ap (take (length x)) whole ∙ take_at y (concat ks ++ k) (length x) (sym len) in
    let rest : concat hs ++ l ≡ concat ks ++ k = sym (drop_at x (concat hs ++ l) (length x) refl) ∙ ap (drop (length x)) whole ∙ drop_at y (concat ks ++ k) (length x) (sym len) in
    let next : IsExtensionHeaderChain (slice_index x 0) ks m = subst (λ z. IsExtensionHeaderChain (slice_index z 0) ks m) (sym front) d.1 in
    let more = others_once (slice_index x 0) n m hs ks l k c.1 h next g rest in
    rw (front, more) refl

-- the headers before the last one are the same bytes
before_once : (first : ℕ) (b l c m : List ℕ) → b ++ l ≡ c ++ m → AreUnfragmentable first b l → AreUnfragmentable first c m → b ≡ c
before_once first b [] c [] same p q = p ∙ sym q
before_once first b [] c (y ∷ m) same p q = absurd (omega (arith, ap length same, ap length p, length-append b [], length-append c (y ∷ m)))
before_once first b (x ∷ l) c [] same p q = absurd (omega (arith, ap length same, ap length q, length-append c [], length-append b (x ∷ l)))
before_once first b (x ∷ l) c (y ∷ m) same (n, p, h) (k, q, g) =
    let is = p.begins.whole ∙ append-nil (concat p.headers) in
    let other = q.begins.whole ∙ append-nil (concat q.headers) in
    let split : concat p.headers ++ x ∷ l ≡ concat q.headers ++ y ∷ m = ap (λ z. z ++ x ∷ l) (sym is) ∙ same ∙ ap (λ z. z ++ y ∷ m) other in
    is ∙ others_once first n k p.headers q.headers (x ∷ l) (y ∷ m) p.begins.chain h q.begins.chain g split ∙ sym other

-- what is before a place is the same of both
same_before : (body a b at to : List ℕ) → at ≡ to → body ≡ a ++ at → body ≡ b ++ to → a ≡ b
same_before body a b at to here p q =
    let len : length b ≡ length a = omega (arith, ap length p, ap length q, ap length here, length-append a at, length-append b to) in
    sym (take_at a at (length a) refl) ∙ ap (take (length a)) (sym p ∙ q) ∙ take_at b to (length a) len

module _ {body : List ℕ} {first : ℕ} where
  -- it stops before a header that decides
  stuck : {a : Ipv6FragmentParts} (p : AreFragmentParts body first a) → CanPass 44 p.at → ⊥
  stuck {a = a} p pass = let part : IsTrue false = subst IsTrue (pass.undecided a.fragment a.payload.now refl p.begins) p.is_part in cc

  -- the fragment header that decides is one, and so is what follows it, and where the last header before it begins
  pub parts_once : (a b : Ipv6FragmentParts) → AreFragmentParts body first a → AreFragmentParts body first b
      → (a.fragment ≡ b.fragment) × (a.payload.now ≡ b.payload.now) × (length a.before.now ≡ length b.before.now)
  parts_once a b p q =
      let same = one_stop (leads p.passes refl) (leads q.passes refl) (stuck p) (stuck q) in
      let fragment = one_fragment q.at a.fragment b.fragment a.payload.now b.payload.now (rw same.1 at p.begins) q.begins in
      let headers = same_before body (a.before.now ++ a.last.now) (b.before.now ++ b.last.now) p.at q.at same.1 (p.whole ∙ simp (append_assoc)) (q.whole ∙ simp (append_assoc)) in
      (fragment.0, fragment.1, ap length (before_once first a.before.now a.last.now b.before.now b.last.now headers p.headers q.headers))

  -- there is none where it stops before another header
  pub parts_not_at : (a : Ipv6FragmentParts) (n : ℕ) (r : List ℕ) → AreFragmentParts body first a → Passes body first None n r → (IsSkippable n → required_len_of n r ≤ length r → ⊥) → ⊥
  parts_not_at a n r p passes stops =
      let same = one_stop (leads p.passes refl) (leads passes refl) (stuck p) (λ pass. stops pass.skippable pass.enough) in
      stops (rw (← same.0) (search rules)) (rw (← same.0, ← same.1) (fragment_next p.at a.fragment a.payload.now p.begins).0)

  -- what has none does not end within a header before one
  pub none_not_before : (n : ℕ) (r : List ℕ) → HasNoFragment body first → EndsInHeader body first None n r → ⊥
  none_not_before n r p q =
      let same = one_stop (leads p.passes refl) (leads q.passes refl) (λ pass. p.upper pass.skippable) (λ pass. omega (arith, pass.enough, q.short)) in
      p.upper (rw same.0 q.skippable)
