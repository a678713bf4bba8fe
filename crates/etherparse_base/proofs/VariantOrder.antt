-- The derived order of an enum whose variants are told apart by their places alone.
use Rattle.std.proofs.Common.{◌≡◌, ℕ, suc, arith, List, [], ◌∷◌, ◌∙◌, refl, inl, inr, Ordering, Less, Equal, Greater}
use Rattle.std.specs.Cmp.{nat_cmp_is, ranked}
use Rattle.std.specs.Ordering.{nat_cmp}
use denote.Enum.Compared.{Each, by}
use denote.Enum.Declared.{Choice, intoss, rowss}
use denote.Enum.Enum.{tag}
use denote.Struct.Field.{Field}

-- two values of one variant are equal
abbrev pub alike : (Fss : List (List Field)) → Each Ordering Fss
alike [] = tt
alike (Fs ∷ Fss) = (λ _ _. Equal, alike Fss)

-- the place of a value's variant
abbrev pub place : (Fss : List (List Field)) → Choice Fss → ℕ
place Fss c = tag (rowss Fss) (intoss Fss c)

-- one place more on both sides changes no answer
later : (a b : ℕ) (r : Ordering) → r ≡ nat_cmp a b → r ≡ nat_cmp (suc a) (suc b)
later a b Less is = nat_cmp_is (suc a) (suc b) Less (omega (arith, ranked a b Less is))
later a b Equal is = nat_cmp_is (suc a) (suc b) Equal (omega (arith, ranked a b Equal is))
later a b Greater is = nat_cmp_is (suc a) (suc b) Greater (omega (arith, ranked a b Greater is))

-- the derived order is that of the places
pub by_place : (Fss : List (List Field)) (c d : Choice Fss) → by Less Greater Fss (alike Fss) c d ≡ nat_cmp (place Fss c) (place Fss d)
by_place [] c d = absurd c
by_place (Fs ∷ Fss) (inl x) (inl y) = nat_cmp_is 0 0 Equal refl
by_place (Fs ∷ Fss) (inl x) (inr y) = nat_cmp_is 0 (suc (place Fss y)) Less (omega arith)
by_place (Fs ∷ Fss) (inr x) (inl y) = nat_cmp_is (suc (place Fss x)) 0 Greater (omega arith)
by_place (Fs ∷ Fss) (inr x) (inr y) = later (place Fss x) (place Fss y) _ (by_place Fss x y)
