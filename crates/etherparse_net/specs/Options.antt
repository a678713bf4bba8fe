-- Options one after another, of either version of IP: an option is its type, and for most types a
-- length and a value.
use Rattle.std.specs.Prelude.{ℕ, ◌≡◌, ◌++◌, List, drop, length, Result, Ok, Err}
use Rattle.std.specs.Prelude.{Option, Some, None}
use Rattle.std.specs.List.{AllByRecursion, concat}
use Rattle.std.specs.Result.{result_map_both}

-- the bytes are these options, one after another, and a rest after them
pub record BeginsWithOptions (IsOption : List ℕ → Type 0) (bytes : List ℕ)
    (options : List (List ℕ)) (rest : List ℕ) : Type 0 where
  pub are_options : AllByRecursion IsOption options
  pub whole : bytes ≡ concat options ++ rest

-- The bytes are these options, and after them the list ends; or what stands there is no option, for
-- a reason that names its place.
abbrev pub ListsOptions : {E : Type 0} → (List ℕ → Type 0) → (List ℕ → Type 0)
    → (ℕ → List ℕ → E → Type 0) → List ℕ → List (List ℕ) → Result (List ℕ) E → Type 0
ListsOptions IsOption IsEnd Refuses bytes options (Ok rest) =
    BeginsWithOptions IsOption bytes options rest × IsEnd rest
ListsOptions IsOption IsEnd Refuses bytes options (Err e) =
    (rest : List ℕ) × BeginsWithOptions IsOption bytes options rest
    × Refuses (length (concat options)) rest e

-- The bytes are listed so, and in no other way.
pub record IsOnlyListing {E : Type 0} (IsOption : List ℕ → Type 0) (IsEnd : List ℕ → Type 0)
    (Refuses : ℕ → List ℕ → E → Type 0) (bytes : List ℕ) (options : List (List ℕ))
    (end : Result (List ℕ) E) : Type 0 where
  pub lists : ListsOptions IsOption IsEnd Refuses bytes options end
  pub only : (others : List (List ℕ)) (other_end : Result (List ℕ) E)
      → ListsOptions IsOption IsEnd Refuses bytes others other_end
      → (others ≡ options) × (other_end ≡ end)

-- how many options some bytes have, as the one way to list them says; or why they do not end
pub record CountsOptions {E : Type 0} (IsOption : List ℕ → Type 0) (IsEnd : List ℕ → Type 0)
    (Refuses : ℕ → List ℕ → E → Type 0) (bytes : List ℕ) (count : Result ℕ E) : Type 0 where
  pub options : List (List ℕ)
  pub end : Result (List ℕ) E
  pub listing : IsOnlyListing IsOption IsEnd Refuses bytes options end
  pub counted : count ≡ result_map_both (λ _. length options) (λ e. e) end

-- What `next` gives of options at a place in their bytes, and the place after it: the option that
-- stands there; or why none does, after which nothing is left; or nothing where the list ends.
abbrev pub GivesOption : {E : Type 0} → (List ℕ → Type 0) → (List ℕ → Type 0)
    → (ℕ → List ℕ → E → Type 0) → List ℕ → ℕ → Option (Result (List ℕ) E) → ℕ → Type 0
GivesOption IsOption IsEnd Refuses bytes place (Some (Ok option)) after =
    IsOption option × (drop place bytes ≡ option ++ drop after bytes)
GivesOption IsOption IsEnd Refuses bytes place (Some (Err e)) after =
    Refuses place (drop place bytes) e × (after ≡ length bytes)
GivesOption IsOption IsEnd Refuses bytes place None after =
    IsEnd (drop place bytes) × (after ≡ place)
