-- The layout of two VLAN tags: a slice is read in one way.
use Rattle.std.proofs.Common.{ℕ, ◌≡◌, ◌∙◌, List, ◌++◌, length, take, drop, take_at, drop_at, ap}
use Rattle.std.proofs.Common.{arith, rules, length-append, length-take, length-drop, sym, subst}
use Rattle.std.proofs.lemmas.Grind.{common_steps}
use Rattle.std.proofs.Math.ListN.{get_or-append}
use Rattle.etherparse.proofs.Fronts.{TellsHeaders}
use Rattle.etherparse.specs.Reading.{BeginsWith}
use Rattle.etherparse_link.proofs.SingleVlanLayout as single
use Rattle.etherparse_link.specs.Bytes.{number_at}
use Rattle.etherparse_link.specs.DoubleVlanHeader.{AreTwoTags, IsDoubleVlanLayout, IsTagType}
use Rattle.etherparse_link.specs.DoubleVlanHeader.{RefusesDoubleVlan}
use Rattle.etherparse_link.specs.SingleVlanHeader.{IsSingleVlanLayout}
use Rattle.etherparse_link.specs.declared.double_vlan_header.DoubleVlanHeader.{DoubleVlanHeader}
use Rattle.etherparse_link.specs.declared.err.double_vlan.HeaderError.TheVariants as content
use Rattle.etherparse_link.specs.declared.err.double_vlan.HeaderSliceError as error
use Rattle.etherparse_link.specs.declared.err.double_vlan.HeaderSliceError.TheVariants as slice

pub same_header : (g h : DoubleVlanHeader) (p : List ℕ) → AreTwoTags g p → AreTwoTags h p → g ≡ h
same_header g h p k l =
    let outer = single.tells_headers.one_header g.outer h.outer (take 4 p) k.outer l.outer in
    let inner = single.tells_headers.one_header g.inner h.inner (drop 4 p) k.inner l.inner in
    search (rules, outer, inner)

pub two_tags_len : (h : DoubleVlanHeader) (p : List ℕ) → AreTwoTags h p → length p ≡ 8
two_tags_len h p l = omega (arith, l.outer.len, l.inner.len, length-take 4 p, length-drop 4 p)

pub two_tags : (h : DoubleVlanHeader) (a b : List ℕ) → IsSingleVlanLayout h.outer a
    → IsSingleVlanLayout h.inner b → AreTwoTags h (a ++ b)
two_tags h a b k l =
    record { outer = rw (take_at a b 4 k.len) k; inner = rw (drop_at a b 4 k.len) l }

-- the EtherType of the outer tag stands in the slice
pub ether_type_at_front : (s : List ℕ) (h : DoubleVlanHeader) (p x : List ℕ) → s ≡ p ++ x
    → AreTwoTags h p → number_at 2 s ≡ h.outer.ether_type
ether_type_at_front s h p x e l =
    let len = two_tags_len h p l in
    let same : number_at 2 s ≡ number_at 2 (take 4 p) =
    rw e (grind (arith, common_steps, get_or-append p x 0 2, get_or-append p x 0 3)) in
    same ∙ l.outer.ether_type

not_refused : (s : List ℕ) (h : DoubleVlanHeader) (x : List ℕ) (e : error.HeaderSliceError)
    → BeginsWith IsDoubleVlanLayout s h x → RefusesDoubleVlan s e → ⊥
not_refused s h x (slice.Len e) b r =
    let len = two_tags_len h b.front b.layout.tags in
    omega (arith, r.short, ap length b.whole, length-append b.front x, len)
not_refused s h x (slice.Content (content.NonVlanEtherType n)) b r =
    let found = r.found ∙ ether_type_at_front s h b.front x b.whole b.layout.tags in
    r.other (subst IsTagType (sym found) b.layout.says)

one_refusal : (s : List ℕ) (e f : error.HeaderSliceError) → RefusesDoubleVlan s e
    → RefusesDoubleVlan s f → e ≡ f
one_refusal s (slice.Len e) (slice.Len f) p q = ap slice.Len (p.error ∙ sym q.error)
one_refusal s (slice.Len e) (slice.Content (content.NonVlanEtherType n)) p q =
    absurd (omega (arith, p.short, q.enough))
one_refusal s (slice.Content (content.NonVlanEtherType m)) (slice.Len f) p q =
    absurd (omega (arith, q.short, p.enough))
one_refusal s (slice.Content (content.NonVlanEtherType m))
    (slice.Content (content.NonVlanEtherType n)) p q =
    ap (λ k. slice.Content (content.NonVlanEtherType k)) (p.found ∙ sym q.found)

pub tells_headers : TellsHeaders IsDoubleVlanLayout RefusesDoubleVlan
tells_headers = record {
  one_header = λ g h p k l. same_header g h p k.tags l.tags;
  one_length = λ s g h x y p q. two_tags_len g p.front p.layout.tags
      ∙ sym (two_tags_len h q.front q.layout.tags);
  not_refused = not_refused;
  one_refusal = one_refusal;
}
