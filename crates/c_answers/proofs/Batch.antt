-- One answer after another.
use Rattle.std.proofs.Common.{ℕ, ◌≡◌, ◌+◌, ◌<◌, List, Some, ap, arith, drop, get_or, inl, inr, length, refl, set, subst, sym, ◌∙◌}
use Rattle.std.proofs.lemmas.Bool.{cases_lt}
use Rattle.std.proofs.lemmas.List.{drop-set-lt, get_or-set_other, get_or-set_same, length-set, drop-drop}
use Rattle.std.proofs.lemmas.Option.{get_or_from_slice_get, slice_get_read}
use Rattle.std.specs.List.{slice_get}
use Rattle.c_answers.specs.Batch.{HasAnswers}

-- the next answer, for what stands at its place
pub one_more : {A B : Type 0} {Answers : A → B → Type 0} (asked : List A) (before after : List B) (n : ℕ) (d : A) (b : B) → HasAnswers Answers asked before after n
    → n < length asked → n < length after → Answers (get_or asked n d) b → HasAnswers Answers asked before (set after n b) (n + 1)
one_more {A} {B} {Answers} asked before after n d b h there within is = record {
  len = length-set after n b ∙ h.len;
  each = each;
  others = drop-set-lt (n + 1) after n b (omega arith) ∙ sym (drop-drop 1 n after) ∙ ap (drop 1) h.others ∙ drop-drop 1 n before;
}
  where
    last : (i : ℕ) → (x : A) → (y : B) → i ≡ n → slice_get asked i ≡ Some x → slice_get (set after n b) i ≡ Some y → Answers x y
    last i x y e at now =
        let x_is : get_or asked n d ≡ x = ap (λ j. get_or asked j d) (sym e) ∙ get_or_from_slice_get asked i x d at in
        let y_is : b ≡ y = sym (get_or-set_same after n b y within) ∙ ap (λ j. get_or (set after n b) j y) (sym e) ∙ get_or_from_slice_get (set after n b) i y y now in
        subst (λ z. Answers x z) y_is (subst (λ z. Answers z b) x_is is)

    each : (i : ℕ) → (x : A) → (y : B) → i < n + 1 → slice_get asked i ≡ Some x → slice_get (set after n b) i ≡ Some y → Answers x y
    each i x y lt at now = elim (cases_lt i n) [
      | inl below ↦ h.each i x y below at
          (slice_get_read after (length after) i y refl (omega (arith, below, within)) (sym (get_or_from_slice_get (set after n b) i y y now) ∙ get_or-set_other after n i b y (omega (arith, below))))
      | inr above ↦ last i x y (omega (arith, lt, above)) at now
    ]

-- before the first
pub none : {A B : Type 0} {Answers : A → B → Type 0} (asked : List A) (before : List B) → HasAnswers Answers asked before before 0
none asked before = record { len = refl; each = λ i a b lt there now. absurd (omega (arith, lt)); others = refl }
