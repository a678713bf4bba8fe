-- No two known code points share a number.
use Rattle.std.proofs.Common.{ℕ, List, [], ◌∷◌, Option, Some, ◌≡◌, ◌∙◌, ap, find, nat_eq, refl, sym}
use Rattle.etherparse_fields.specs.IpDscpKnown.{code_point_of}
use Rattle.etherparse_fields.specs.declared.net.ip_dscp_known.IpDscpKnown.{IpDscpKnown}
use Rattle.etherparse_fields.specs.declared.net.ip_dscp_known.IpDscpKnown.TheVariants as known

abbrev points : List IpDscpKnown
points =
    known.ClassSelector0 ∷ known.ClassSelector1 ∷ known.ClassSelector2 ∷ known.ClassSelector3 ∷
    known.ClassSelector4 ∷ known.ClassSelector5 ∷ known.ClassSelector6 ∷ known.ClassSelector7 ∷
    known.AfGroup11 ∷ known.AfGroup12 ∷ known.AfGroup13 ∷ known.AfGroup21 ∷ known.AfGroup22 ∷
    known.AfGroup23 ∷ known.AfGroup31 ∷ known.AfGroup32 ∷ known.AfGroup33 ∷ known.AfGroup41 ∷
    known.AfGroup42 ∷ known.AfGroup43 ∷ known.ExpeditedForwarding ∷ known.VoiceAdmit ∷ known.LowerEffort ∷ []

-- the first code point with a number
abbrev known_at : ℕ → Option IpDscpKnown
known_at n = find (λ point. nat_eq (code_point_of point) n) points

known_at_code_point : (point : IpDscpKnown) → known_at (code_point_of point) ≡ Some point
known_at_code_point known.ClassSelector0 = refl
known_at_code_point _ = refl

pub code_point_of_injective : (a b : IpDscpKnown) → code_point_of a ≡ code_point_of b → a ≡ b
code_point_of_injective a b same =
    let found : Some a ≡ Some b = sym (known_at_code_point a) ∙ ap known_at same ∙ known_at_code_point b in cc found
