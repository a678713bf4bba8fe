-- Bytes are listed as options in one way.
use Rattle.std.proofs.Common.{ℕ, ◌≡◌, ◌+◌, ◌≤◌, List, [], ◌∷◌, ◌++◌, length, drop, length-drop}
use Rattle.std.proofs.Common.{sym, ap, ◌∙◌, subst, arith, append_assoc, append-nil, length-append}
use Rattle.std.proofs.Common.{Option, Some, None, Result, Ok, Err, drop-drop, refl}
use Rattle.std.specs.List.{AllByRecursion, concat}
use Rattle.std.proofs.lemmas.List.{append_cancel_left}
use Rattle.std.proofs.lemmas.List.Folds.{concat-append}
use Rattle.etherparse.proofs.Parts.{same_front}
use Rattle.etherparse_net.specs.Options.{BeginsWithOptions, GivesOption, IsOnlyListing}
use Rattle.etherparse_net.specs.Options.{ListsOptions}

-- What makes it one way: options at one front have one length; what begins with an option is not
-- the end, and not refused; the end is not refused; and what is refused has one reason.
pub record TellsOptions {E : Type 0} (IsOption IsEnd : List ℕ → Type 0)
    (Refuses : ℕ → List ℕ → E → Type 0) : Type 0 where
  pub one_length : (o p x y : List ℕ) → IsOption o → IsOption p → o ++ x ≡ p ++ y
      → length o ≡ length p
  pub not_end : (o x s : List ℕ) → IsOption o → s ≡ o ++ x → IsEnd s → ⊥
  pub not_refused : (o x s : List ℕ) (place : ℕ) (e : E) → IsOption o → s ≡ o ++ x
      → Refuses place s e → ⊥
  pub end_not_refused : (s : List ℕ) (place : ℕ) (e : E) → IsEnd s → Refuses place s e → ⊥
  pub one_refusal : (s : List ℕ) (place : ℕ) (e f : E) → Refuses place s e → Refuses place s f
      → e ≡ f

-- no option stands at the front
abbrev IsStuck : (List ℕ → Type 0) → List ℕ → Type 0
IsStuck IsOption r = (o x : List ℕ) → IsOption o → r ≡ o ++ x → ⊥

-- options up to where none stands are one list
same_options : {E : Type 0} {IsOption IsEnd : List ℕ → Type 0} {Refuses : ℕ → List ℕ → E → Type 0}
    → TellsOptions IsOption IsEnd Refuses → (os ps : List (List ℕ)) (r q : List ℕ)
    → AllByRecursion IsOption os → AllByRecursion IsOption ps → concat os ++ r ≡ concat ps ++ q
    → IsStuck IsOption r → IsStuck IsOption q → (os ≡ ps) × (r ≡ q)
same_options t [] [] r q k l e stuck other = (refl, e)
same_options t [] (p ∷ ps) r q k l e stuck other =
    absurd (stuck p (concat ps ++ q) l.0 (e ∙ append_assoc p (concat ps) q))
same_options t (o ∷ os) [] r q k l e stuck other =
    absurd (other o (concat os ++ r) k.0 (sym e ∙ append_assoc o (concat os) r))
same_options t (o ∷ os) (p ∷ ps) r q k l e stuck other =
    let x = concat os ++ r in
    let y = concat ps ++ q in
    let split : o ++ x ≡ p ++ y =
    sym (append_assoc o (concat os) r) ∙ e ∙ append_assoc p (concat ps) q in
    let first = same_front o p x y (t.one_length o p x y k.0 l.0 split) split in
    let rest : x ≡ y = append_cancel_left p x y (ap (λ z. z ++ x) (sym first) ∙ split) in
    let same = same_options t os ps r q k.1 l.1 rest stuck other in
    (ap (λ z. z ∷ os) first ∙ ap (λ z. p ∷ z) same.0, same.1)

-- one more option
all_append : (P : List ℕ → Type 0) (os : List (List ℕ)) (o : List ℕ) → AllByRecursion P os → P o
    → AllByRecursion P (os ++ o ∷ [])
all_append P [] o all p = (p, tt)
all_append P (x ∷ os) o all p = (all.0, all_append P os o all.1 p)

pub one_more : (IsOption : List ℕ → Type 0) (s : List ℕ) (os : List (List ℕ)) (o r t : List ℕ)
    → BeginsWithOptions IsOption s os r → IsOption o → r ≡ o ++ t
    → BeginsWithOptions IsOption s (os ++ o ∷ []) t
one_more IsOption s os o r t b is e = record {
  are_options = all_append IsOption os o b.are_options is;
  whole = b.whole ∙ ap (λ x. concat os ++ x) e
      ∙ sym (rw (concat-append os (o ∷ []), append-nil o, append_assoc (concat os) o t) refl);
}

module _ {E : Type 0} (IsOption IsEnd : List ℕ → Type 0) (Refuses : ℕ → List ℕ → E → Type 0)
    (t : TellsOptions IsOption IsEnd Refuses) (s : List ℕ) where
  -- so are options that begin some bytes
  one_beginning : (os ps : List (List ℕ)) (r q : List ℕ) → BeginsWithOptions IsOption s os r
      → BeginsWithOptions IsOption s ps q → IsStuck IsOption r → IsStuck IsOption q
      → (os ≡ ps) × (r ≡ q)
  one_beginning os ps r q b d stuck other =
      same_options t os ps r q b.are_options d.are_options (sym b.whole ∙ d.whole) stuck other

  listed_once : (os ps : List (List ℕ)) (a b : Result (List ℕ) E)
      → ListsOptions IsOption IsEnd Refuses s os a → ListsOptions IsOption IsEnd Refuses s ps b
      → (os ≡ ps) × (a ≡ b)
  listed_once os ps (Ok r) (Ok q) k l =
      let same = one_beginning os ps r q k.0 l.0 (λ o x p e. t.not_end o x r p e k.1)
      (λ o x p e. t.not_end o x q p e l.1) in
      (same.0, ap Ok same.1)
  listed_once os ps (Ok r) (Err f) k l =
      let same = one_beginning os ps r l.0 k.0 l.1 (λ o x p e. t.not_end o x r p e k.1)
      (λ o x p e. t.not_refused o x l.0 _ f p e l.2) in
      absurd (t.end_not_refused l.0 _ f (subst IsEnd same.1 k.1) l.2)
  listed_once os ps (Err e) (Ok q) k l =
      let same = one_beginning os ps k.0 q k.1 l.0 (λ o x p d. t.not_refused o x k.0 _ e p d k.2)
      (λ o x p d. t.not_end o x q p d l.1) in
      absurd (t.end_not_refused k.0 _ e (subst IsEnd (sym same.1) l.1) k.2)
  listed_once os ps (Err e) (Err f) k l =
      let same = one_beginning os ps k.0 l.0 k.1 l.1
      (λ o x p d. t.not_refused o x k.0 _ e p d k.2)
      (λ o x p d. t.not_refused o x l.0 _ f p d l.2) in
      let refused = subst (λ z. Refuses (length (concat z)) l.0 e) same.0
      (subst (λ z. Refuses (length (concat os)) z e) same.1 k.2) in
      (same.0, ap Err (t.one_refusal l.0 _ e f refused l.2))

  -- what is listed is listed in no other way
  pub only_listing : (os : List (List ℕ)) (a : Result (List ℕ) E)
      → ListsOptions IsOption IsEnd Refuses s os a → IsOnlyListing IsOption IsEnd Refuses s os a
  only_listing os a l = record { lists = l; only = λ ps b k. listed_once ps os b a k l }

  -- with the options before a place, what is found there begins the bytes, or ends their listing
  abbrev pub ListsOn : ℕ → Option (Result (List ℕ) E) → ℕ → List (List ℕ) → Type 0
  ListsOn at (Some (Ok o)) after os = BeginsWithOptions IsOption s (os ++ o ∷ []) (drop after s)
  ListsOn at (Some (Err e)) after os = IsOnlyListing IsOption IsEnd Refuses s os (Err e)
  ListsOn at None after os = IsOnlyListing IsOption IsEnd Refuses s os (Ok (drop at s))

  pub lists_on : (at : ℕ) (found : Option (Result (List ℕ) E)) (after : ℕ) → at ≤ length s
      → GivesOption IsOption IsEnd Refuses s at found after → (os : List (List ℕ))
      → BeginsWithOptions IsOption s os (drop at s) → ListsOn at found after os
  lists_on at (Some (Ok o)) after within g os b =
      one_more IsOption s os o (drop at s) (drop after s) b g.0 g.1
  lists_on at (Some (Err e)) after within g os b =
      let place : at ≡ length (concat os) =
      omega (arith, ap length b.whole, length-append (concat os) (drop at s), length-drop at s) in
      only_listing os (Err e) (drop at s, b, subst (λ n. Refuses n (drop at s) e) place g.0)
  lists_on at None after within g os b = only_listing os (Ok (drop at s)) (b, g.0)

-- after an option at a place the place is further on by its length
pub further : (s rest o : List ℕ) (at : ℕ) → rest ≡ drop at s → rest ≡ o ++ drop (length o) rest
    → drop at s ≡ o ++ drop (at + length o) s
further s rest o at is e =
    sym is ∙ e ∙ ap (λ x. o ++ x) (ap (drop (length o)) is ∙ drop-drop (length o) at s)

-- so many options stand before a place
pub record CountedTo (IsOption : List ℕ → Type 0) (s : List ℕ) (at count : ℕ) : Type 0 where
  pub options : List (List ℕ)
  pub begins : BeginsWithOptions IsOption s options (drop at s)
  pub counted : count ≡ length options
  pub few : count ≤ at
