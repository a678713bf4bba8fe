-- Extension headers end in one way.
use Rattle.std.proofs.Common.{ℕ, suc, ◌≡◌, ◌≢◌, ◌-◌, ◌<◌, ◌≤◌, Bool, false, true, List, length, refl, sym, ap, ◌∙◌, subst, arith, rules, Option, Some, None, Ok, length-append, inl, inr}
use Rattle.std.specs.Option.{option_or}
use Rattle.std.specs.Result.{result_unwrap_or}
use Rattle.std.proofs.lemmas.Bool.{cases_order}
use Rattle.std.proofs.lemmas.Grind.{common_steps}
use Rattle.etherparse.proofs.Fronts.{TellsHeaders, fixed_tells, read_once}
use Rattle.etherparse.specs.ExtensionHeaderChain.{incomplete_header_error, required_len_of}
use Rattle.etherparse.specs.ExtensionHeaders.{IsSkippable}
use Rattle.etherparse.specs.Reading.{BeginsWith}
use Rattle.etherparse.specs.declared.err.LenError.{LenError}
use Rattle.etherparse.specs.declared.err.Layer.TheVariants as layer
use Rattle.packet_parts.specs.Extensions.{EndsAs, Passes, at_front, after_other, after_fragment, deciding}
use Rattle.etherparse_net.specs.Ipv6FragmentHeader.{IsFragmentLayout, RefusesFragment}
use Rattle.etherparse_net.specs.declared.ipv6_fragment_header.Ipv6FragmentHeader.{Ipv6FragmentHeader}

-- a slice begins with one header, and one rest after it
pub same_beginning : {H E : Type 0} (Layout : H → List ℕ → Type 0) (Refuses : List ℕ → E → Type 0) → TellsHeaders Layout Refuses
    → (s : List ℕ) (g h : H) (x y : List ℕ) → BeginsWith Layout s g x → BeginsWith Layout s h y → (g ≡ h) × (x ≡ y)
same_beginning Layout Refuses tells s g h x y p q =
    let same = ap (λ a. result_unwrap_or a (h, y)) (read_once Layout Refuses tells s (Ok (g, x)) (Ok (h, y)) p q) in (ap (λ a. a.0) same, ap (λ a. a.1) same)

tells_fragment : TellsHeaders IsFragmentLayout RefusesFragment
tells_fragment = fixed_tells IsFragmentLayout layer.Ipv6FragHeader 8 (λ g h p k l. search rules) (λ h p l. l.len)

-- a slice begins with one fragment header
one_fragment : (s : List ℕ) (g h : Ipv6FragmentHeader) (x y : List ℕ) → BeginsWith IsFragmentLayout s g x → BeginsWith IsFragmentLayout s h y → (g ≡ h) × (x ≡ y)
one_fragment = same_beginning IsFragmentLayout RefusesFragment tells_fragment

-- one more header can be passed
record CanPass (number : ℕ) (rest : List ℕ) : Type 0 where
  skippable : IsSkippable number
  enough : required_len_of number rest ≤ length rest
  not_later : (h : Ipv6FragmentHeader) (x : List ℕ) → number ≡ 44 → BeginsWith IsFragmentLayout rest h x → h.fragment_offset ≡ 0

at_one : (n m : ℕ) (r t : List ℕ) → n ≡ m → r ≡ t → CanPass m t → CanPass n r
at_one n m r t e f pass = rw (e, f) pass

fragment_enough : (at : List ℕ) (h : Ipv6FragmentHeader) (x : List ℕ) → BeginsWith IsFragmentLayout at h x → required_len_of 44 at ≤ length at
fragment_enough at h x b = let len : 8 ≤ length at = omega (arith, ap length b.whole, length-append {A = ℕ}, b.layout.len) in grind (arith, common_steps)

module _ (s : List ℕ) (first : ℕ) where
  -- how many headers were passed
  abbrev count : (d : Option Ipv6FragmentHeader) (n : ℕ) (r : List ℕ) → Passes s first d n r → ℕ
  count d n r at_front = 0
  count d n r (after_other {decided = e} {number = m} {rest = t} p _ _ _) = suc (count e m t p)
  count d n r (after_fragment {decided = e} {at = t} p _ _) = suc (count e 44 t p)

  -- as many headers lead to one place
  same_place : (d e : Option Ipv6FragmentHeader) (n m : ℕ) (r t : List ℕ) (p : Passes s first d n r) (q : Passes s first e m t) → count d n r p ≡ count e m t q
      → (d ≡ e) × (n ≡ m) × (r ≡ t)
  same_place d e n m r t at_front at_front c = (refl, refl, refl)
  same_place d e n m r t at_front (after_other _ _ _ _) c = absurd (omega (arith, c))
  same_place d e n m r t at_front (after_fragment _ _ _) c = absurd (omega (arith, c))
  same_place d e n m r t (after_other _ _ _ _) at_front c = absurd (omega (arith, c))
  same_place d e n m r t (after_fragment _ _ _) at_front c = absurd (omega (arith, c))
  same_place d e n m r t (after_other p _ _ _) (after_other q _ _ _) c = let same = same_place _ _ _ _ _ _ p q (omega (arith, c)) in (same.0, cc, cc)
  same_place d e n m r t (after_other p _ other _) (after_fragment q _ _) c = absurd (other (same_place _ _ _ _ _ _ p q (omega (arith, c))).1)
  same_place d e n m r t (after_fragment p _ _) (after_other q _ other _) c = absurd (other (sym (same_place _ _ _ _ _ _ p q (omega (arith, c))).1))
  same_place d e n m r t (after_fragment {decided = c₁} {rest = r₁} {next = g} p b _) (after_fragment {decided = c₂} {rest = r₂} {next = h} q f _) c =
      let same = same_place _ _ _ _ _ _ p q (omega (arith, c)) in
      let next = one_fragment _ g h r₁ r₂ (subst (λ x. BeginsWith IsFragmentLayout x g r₁) same.2 b) f in
      (ap (λ o. option_or o (deciding g)) same.0 ∙ ap (λ x. option_or c₂ (deciding x)) next.0, ap (λ x. x.next_header) next.0, next.1)

  -- before it, each place that was reached has a header that can be passed
  passed_before : (d : Option Ipv6FragmentHeader) (n : ℕ) (r : List ℕ) (p : Passes s first d n r) (k : ℕ) → k < count d n r p
      → (e : Option Ipv6FragmentHeader) × (m : ℕ) × (t : List ℕ) × (q : Passes s first e m t) × (count e m t q ≡ k) × CanPass m t
  passed_before d n r at_front k c = absurd (omega (arith, c))
  passed_before d n r (after_other {decided = e} {number = m} {rest = t} p skippable other enough) k c =
      elim (cases_order k (count e m t p)) [
        | inl same ↦ (e, m, t, p, sym same, record { skippable = skippable; enough = enough; not_later = λ h x is b. absurd (other is) })
        | inr (inl below) ↦ passed_before e m t p k below
        | inr (inr above) ↦ absurd (omega (arith, c, above))
      ]
  passed_before d n r (after_fragment {decided = e} {at = t} {rest = x} {next = next} p b first_part) k c =
      elim (cases_order k (count e 44 t p)) [
        | inl same ↦ (
          e,
          44,
          t,
          p,
          sym same,
          record {
            skippable = search rules;
            enough = fragment_enough t next x b;
            not_later = λ h y is f. ap (λ z. z.fragment_offset) (one_fragment t h next y x f b).0 ∙ first_part;
          },
        )
        | inr (inl below) ↦ passed_before e 44 t p k below
        | inr (inr above) ↦ absurd (omega (arith, c, above))
      ]

  -- two places without a further header are one
  one_place : (d e : Option Ipv6FragmentHeader) (n m : ℕ) (r t : List ℕ) → Passes s first d n r → Passes s first e m t → (CanPass n r → ⊥) → (CanPass m t → ⊥)
      → (d ≡ e) × (n ≡ m) × (r ≡ t)
  one_place d e n m r t p q stuck stuck' =
      elim (cases_order (count d n r p) (count e m t q)) [
        | inl same ↦ same_place d e n m r t p q same
        | inr (inl below) ↦ let o = passed_before e m t q (count d n r p) below in
            let same = same_place d o.0 n o.1 r o.2 p o.3 (sym o.4) in absurd (stuck (at_one _ _ _ _ same.1 same.2 o.5))
        | inr (inr above) ↦ let o = passed_before d n r p (count e m t q) above in
            let same = same_place e o.0 m o.1 t o.2 q o.3 (sym o.4) in absurd (stuck' (at_one _ _ _ _ same.1 same.2 o.5))
      ]

-- why there is no further header: its number cannot be skipped; the fragment is not the first; or the slice ends before that
ends_stuck : (n : ℕ) (r : List ℕ) → (IsSkippable n → ⊥) → CanPass n r → ⊥
ends_stuck n r other pass = other pass.skippable

later_stuck : (at : List ℕ) (h : Ipv6FragmentHeader) (x : List ℕ) → BeginsWith IsFragmentLayout at h x → h.fragment_offset ≢ 0 → CanPass 44 at → ⊥
later_stuck at h x b later pass = later (pass.not_later h x refl b)

short_stuck : (n : ℕ) (r : List ℕ) → length r < required_len_of n r → CanPass n r → ⊥
short_stuck n r short pass = omega (arith, pass.enough)

whole_not_short : (at t : List ℕ) (m : ℕ) → at ≡ t → 44 ≡ m → (h : Ipv6FragmentHeader) (x : List ℕ) → BeginsWith IsFragmentLayout at h x → length t < required_len_of m t → ⊥
whole_not_short at t m e f h x b short =
    let needed : required_len_of m t ≡ required_len_of 44 at = ap (λ k. required_len_of k t) (sym f) ∙ ap (λ y. required_len_of 44 y) (sym e) in
    omega (arith, needed, ap length e, fragment_enough at h x b)

-- extension headers end in one way
pub record SameEnd (l k : Bool) (a b : Option LenError) (d e : Option Ipv6FragmentHeader) (n m : ℕ) (r t : List ℕ) : Type 0 where
  pub later : l ≡ k
  pub incomplete : a ≡ b
  pub decided : d ≡ e
  pub number : n ≡ m
  pub rest : r ≡ t

pub one_end : (s : List ℕ) (first : ℕ) (l k : Bool) (a b : Option LenError) (d e : Option Ipv6FragmentHeader) (n m : ℕ) (r t : List ℕ)
    → EndsAs l a s first d n r → EndsAs k b s first e m t → SameEnd l k a b d e n m r t
one_end s first false false None None d e n m r t (p, other) (q, other') =
    let same = one_place s first d e n m r t p q (ends_stuck n r other) (ends_stuck m t other') in
    record { later = refl; incomplete = refl; decided = same.0; number = same.1; rest = same.2 }
one_end s first true true None None d e n m r t p q =
    let same = one_place s first _ _ 44 44 p.at q.at p.passes q.passes (later_stuck _ _ _ p.begins p.later) (later_stuck _ _ _ q.begins q.later) in
    let last = one_fragment q.at p.last q.last r t (subst (λ x. BeginsWith IsFragmentLayout x p.last r) same.2 p.begins) q.begins in
    record {
      later = refl;
      incomplete = refl;
      decided = p.decides ∙ ap (λ o. option_or o (deciding p.last)) same.0 ∙ ap (λ x. option_or q.before (deciding x)) last.0 ∙ sym q.decides;
      number = p.named ∙ ap (λ x. x.next_header) last.0 ∙ sym q.named;
      rest = last.1;
    }
one_end s first false false (Some a) (Some b) d e n m r t (p, is) (q, is') =
    let same = one_place s first d e n m r t p.passes q.passes (short_stuck n r p.short) (short_stuck m t q.short) in
    record {
      later = refl;
      incomplete = ap Some (is ∙ ap (λ x. incomplete_header_error x r (length s - length r)) same.1 ∙ ap (λ x. incomplete_header_error m x (length s - length x)) same.2 ∙ sym is');
      decided = same.0;
      number = same.1;
      rest = same.2;
    }
one_end s first false true None None d e n m r t (p, other) q =
    let same = one_place s first d _ n 44 r q.at p q.passes (ends_stuck n r other) (later_stuck _ _ _ q.begins q.later) in absurd (other (search (rules, same)))
one_end s first true false None None d e n m r t p (q, other) =
    let same = one_place s first _ e 44 m p.at t p.passes q (later_stuck _ _ _ p.begins p.later) (ends_stuck m t other) in absurd (other (search (rules, same)))
one_end s first false false None (Some b) d e n m r t (p, other) (q, is) =
    let same = one_place s first d e n m r t p q.passes (ends_stuck n r other) (short_stuck m t q.short) in absurd (other (rw same.1 q.skippable))
one_end s first false false (Some a) None d e n m r t (p, is) (q, other) =
    let same = one_place s first d e n m r t p.passes q (short_stuck n r p.short) (ends_stuck m t other) in absurd (other (rw (sym same.1) p.skippable))
one_end s first true false None (Some b) d e n m r t p (q, is) =
    let same = one_place s first _ e 44 m p.at t p.passes q.passes (later_stuck _ _ _ p.begins p.later) (short_stuck m t q.short) in
    absurd (whole_not_short p.at t m same.2 same.1 p.last r p.begins q.short)
one_end s first false true (Some a) None d e n m r t (p, is) q =
    let same = one_place s first d _ n 44 r q.at p.passes q.passes (short_stuck n r p.short) (later_stuck _ _ _ q.begins q.later) in
    absurd (whole_not_short q.at r n (sym same.2) (sym same.1) q.last t q.begins p.short)
one_end s first true k (Some a) b d e n m r t p q = absurd p
one_end s first l true a (Some b) d e n m r t p q = absurd q
