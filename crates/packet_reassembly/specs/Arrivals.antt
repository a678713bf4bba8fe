-- What has come of a datagram, in any order, with repetitions, and with fragments among them that
-- no datagram can have.
use Rattle.std.specs.Prelude.{ℕ, ◌↔◌, List, Option, Some, None, map, Contains}
use Rattle.packet_reassembly.specs.Fragment.{AreCutFrom, Conflict, Fragment, IsRight, fragment}
use Rattle.packet_reassembly.specs.declared.reassemble.IpFragment.{IpFragment}

-- the fragments that came, in order
abbrev pub came : List IpFragment → List Fragment
came fragments = map (λ f. fragment f.offset f.more_fragments f.payload.now) fragments

-- those that a datagram can have
abbrev pub AreRightOf : List Fragment → List Fragment → Type 0
AreRightOf fragments right = (f : Fragment)
    → (Contains right f ↔ (Contains fragments f × IsRight f))

-- those are the datagram, cut into pieces
pub record HoldDatagram (fragments : List Fragment) (datagram : List ℕ) : Type 0 where
  pub right : List Fragment
  pub are_right : AreRightOf fragments right
  pub cut : AreCutFrom datagram right

-- two of them conflict
pub record HaveConflict (fragments : List Fragment) : Type 0 where
  pub one : Fragment
  pub other : Fragment
  pub has_one : Contains fragments one × IsRight one
  pub has_other : Contains fragments other × IsRight other
  pub conflict : Conflict one other

-- the same fragments that a datagram can have, in whichever order and however often
abbrev pub HaveSameRight : List Fragment → List Fragment → Type 0
HaveSameRight xs ys = (f : Fragment) → IsRight f → (Contains xs f ↔ Contains ys f)

-- what is kept, once these have come: nothing if two of them conflict, and otherwise those that a
-- datagram can have
abbrev pub StandsFor : Option (List Fragment) → List Fragment → Type 0
StandsFor None fragments = HaveConflict fragments
StandsFor (Some kept) fragments = AreRightOf fragments kept × (¬ HaveConflict fragments)
