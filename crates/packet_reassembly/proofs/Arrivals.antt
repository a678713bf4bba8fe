-- what holds of all fragments of a datagram, and one fragment after another
use Rattle.std.proofs.Common.{ℕ, ◌≡◌, ◌+◌, ◌-◌, ◌⊎◌, ◌↔◌, ◌++◌, [], ◌∷◌, List, length, arith, inl, inr, sym, ◌∙◌, slice_index_or, Option, Some, None}
use Rattle.std.proofs.lemmas.List.{ext_get_or}
use Rattle.std.proofs.lemmas.List.Edits.{get_or-between}
use Rattle.std.proofs.lemmas.List.Elements.{Contains-append_left, Contains-push, Contains-push_cases}
use Rattle.std.specs.List.{Contains}
use Rattle.packet_reassembly.specs.Arrivals.{AreRightOf, HaveConflict, HaveSameRight, HoldDatagram, StandsFor}
use Rattle.packet_reassembly.specs.Fragment.{AreCutFrom, Conflict, Covers, Fragment, HaveSame, IsPieceOf, IsRight, IsWhole, Takes, end_of}
use Rattle.packet_reassembly.specs.Refusal.{Refuses}
use Rattle.packet_reassembly.specs.declared.ip_defrag_error.IpDefragError.{IpDefragError}

-- two lists of those that a datagram can have, of one list, are cut from the same datagrams
pub cut_same : (all xs ys : List Fragment) → AreRightOf all xs → AreRightOf all ys → (datagram : List ℕ) → AreCutFrom datagram xs → AreCutFrom datagram ys
cut_same all xs ys a b datagram cut =
    let same : HaveSame xs ys = λ f. (λ h. (b f).1 ((a f).0 h), λ h. (a f).1 ((b f).0 h)) in record {
      some = cut.some;
      pieces = λ f has. cut.pieces f ((same f).1 has);
      covered = λ i below. let (f, has, cover) = cut.covered i below in (f, (same f).0 has, cover);
      apart = λ f g hf hg. cut.apart f g ((same f).1 hf) ((same g).1 hg);
    }

pub conflict_cut : (xs : List Fragment) (datagram : List ℕ) (f g : Fragment) → AreCutFrom datagram xs → Contains xs f → Contains xs g → ¬ Conflict f g
conflict_cut xs datagram f g cut hf hg c = grind (arith, cut.apart f g hf hg, cut.pieces f hf, cut.pieces g hg)

byte_of_piece : (datagram : List ℕ) (f : Fragment) (i : ℕ) → IsPieceOf datagram f → Covers f i → slice_index_or datagram i 0 ≡ slice_index_or f.bytes (i - f.start) 0
byte_of_piece datagram f i p c =
    let e : f.start + (i - f.start) ≡ i = omega arith in
    rw (p.bytes, get_or-between datagram f.start (end_of f) (i - f.start) 0 (omega arith), e)

pub one_cut : (xs : List Fragment) (one other : List ℕ) → AreCutFrom one xs → AreCutFrom other xs → one ≡ other
one_cut xs one other a b =
    let (f, has, cover) = a.covered (length one - 1) (omega arith) in
    let p = a.pieces f has in
    let e : end_of f ≡ length one = omega arith in ext_get_or 0 one other (sym e ∙ (b.pieces f has).last.0 (p.last.1 e)) (λ i below.
    let (g, has_g, covers) = a.covered i below in
    byte_of_piece one g i (a.pieces g has_g) covers ∙ sym (byte_of_piece other g i (b.pieces g has_g) covers))

-- a fragment that a datagram can have has come
abbrev Came : List Fragment → Fragment → Type 0
Came xs f = Contains xs f × IsRight f

-- a conflict stays where more have come
more_conflict : (xs ys : List Fragment) → ((f : Fragment) → IsRight f → Contains xs f → Contains ys f) → HaveConflict xs → HaveConflict ys
more_conflict xs ys more c = search more

-- a fragment that a datagram can have is not refused
pub not_refused : (f : Fragment) (e : IpDefragError) → IsRight f → Refuses f e → ⊥
not_refused f e right refused = grind arith

module _ (xs : List Fragment) (f : Fragment) where
  pushed : (g : Fragment) → Came (xs ++ f ∷ []) g → Came xs g ⊎ ((f ≡ g) × IsRight f)
  pushed g h = grind (arith, Contains-push_cases xs f g)

  -- there is none if the last fragment has none with those before it
  still_none : ¬ HaveConflict xs → ((g : Fragment) → Came xs g → IsRight f → ¬ Conflict g f) → ¬ HaveConflict (xs ++ f ∷ [])
  still_none none free c =
      let apart = λ (has_one : Came xs c.one) (has_other : Came xs c.other). none (record { one = c.one; other = c.other; has_one = has_one; has_other = has_other; conflict = c.conflict }) in
      grind (arith, pushed c.one c.has_one, pushed c.other c.has_other, apart, free c.one, free c.other, c.conflict)

  -- one fragment more that a datagram can have
  right_more : (old new : List Fragment) → AreRightOf xs old → HaveSame new (old ++ f ∷ []) → IsRight f → AreRightOf (xs ++ f ∷ []) new
  right_more old new are same right g = (
    λ h. elim (Contains-push_cases old f g ((same g).0 h)) [
      | inl has ↦ let (came, is) = (are g).0 has in (Contains-append_left xs (f ∷ []) g came, is)
      | inr e ↦ rw (← e) (Contains-push xs f, right)
    ],
    λ h. (same g).1 (elim (pushed g h) [ inl came ↦ Contains-append_left old (f ∷ []) g ((are g).1 came) | inr own ↦ rw (← own.0) (Contains-push old f) ]),
  )

  pub stands_more : (old new : Option (List Fragment)) → StandsFor old xs → Takes old f new → IsRight f → StandsFor new (xs ++ f ∷ [])
  stands_more None new stands takes right = rw takes (more_conflict xs (xs ++ f ∷ []) (λ g _. Contains-append_left xs (f ∷ []) g) stands)
  stands_more (Some old) None stands (g, has, conflict) right =
      let (came, is_right) = (stands.0 g).0 has in
      record { one = g; other = f; has_one = (Contains-append_left xs (f ∷ []) g came, is_right); has_other = (Contains-push xs f, right); conflict = conflict }
  stands_more (Some old) (Some new) stands takes right =
      (right_more old new stands.0 takes.1 right, still_none stands.1 (λ g came _. takes.0 g ((stands.0 g).1 came)))

  -- one that is refused
  right_same : (kept : List Fragment) → AreRightOf xs kept → ¬ IsRight f → AreRightOf (xs ++ f ∷ []) kept
  right_same kept are wrong g = (
    λ h. let (came, is) = (are g).0 h in (Contains-append_left xs (f ∷ []) g came, is),
    λ h. elim (pushed g h) [ inl came ↦ (are g).1 came | inr own ↦ absurd (wrong own.1) ],
  )

  pub stands_refused : (value : Option (List Fragment)) (e : IpDefragError) → StandsFor value xs → Refuses f e → StandsFor value (xs ++ f ∷ [])
  stands_refused None e stands refused = more_conflict xs (xs ++ f ∷ []) (λ g _. Contains-append_left xs (f ∷ []) g) stands
  stands_refused (Some kept) e stands refused =
      let wrong : ¬ IsRight f = λ right. not_refused f e right refused in (right_same kept stands.0 wrong, still_none stands.1 (λ g came right _. wrong right))

pub not_held : (xs : List Fragment) → HaveConflict xs → (datagram : List ℕ) → ¬ HoldDatagram xs datagram
not_held xs c datagram h = conflict_cut h.right datagram c.one c.other h.cut ((h.are_right c.one).1 c.has_one) ((h.are_right c.other).1 c.has_other) c.conflict

pub held_same : (xs ys : List Fragment) → HaveSameRight xs ys → (datagram : List ℕ) → HoldDatagram xs datagram → HoldDatagram ys datagram
held_same xs ys same datagram h = let are : AreRightOf ys h.right = λ f. grind (arith, h.are_right f, same f) in search (are, h.cut)

pub conflict_same : (xs ys : List Fragment) → HaveSameRight xs ys → HaveConflict xs → HaveConflict ys
conflict_same xs ys same = more_conflict xs ys (λ f right. (same f right).0)

pub one_held : (xs : List Fragment) → (datagram other : List ℕ) → HoldDatagram xs datagram → HoldDatagram xs other → datagram ≡ other
one_held xs datagram other a b = one_cut b.right datagram other (cut_same xs a.right b.right a.are_right b.are_right datagram a.cut) b.cut

-- what is kept is a whole datagram exactly if what came is
pub whole_stands : (value : Option (List Fragment)) (xs : List Fragment) → StandsFor value xs → (datagram : List ℕ) → (IsWhole value datagram ↔ HoldDatagram xs datagram)
whole_stands None xs stands datagram = (λ h. absurd h, not_held xs stands datagram)
whole_stands (Some kept) xs stands datagram = (
  λ cut. record { right = kept; are_right = stands.0; cut = cut },
  λ h. cut_same xs h.right kept h.are_right stands.0 datagram h.cut,
)
