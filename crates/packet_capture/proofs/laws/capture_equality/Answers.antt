use Rattle.std.proofs.Common.{◌≡◌, List, arith, refl, rules}
use Rattle.std.proofs.lemmas.Bool.Decides.{nat_tests}
use Rattle.std.proofs.lemmas.Slice.Eq.{slice_eq-Decides}
use Rattle.std.specs.Bool.{Decides}
use Rattle.std.specs.Cmp.Lexicographic.{pointwise}
use Rattle.packet_capture.specs.contracts.pcapng.interfaces.InterfacePartialEq.TheImpl as derived
use Rattle.packet_capture.specs.declared.pcapng.interfaces.Interface.{Interface}
use Rattle.packet_capture.proofs.laws.capture_equality.Goals as goal

same : (a b : Interface) → Decides ((derived.ghosts).eq a b) (a ≡ b)
same a b = search (rules, nat_tests)

-- the interfaces are equal, one by one
all_same : (xs ys : List Interface) → Decides (pointwise (derived.ghosts).eq xs ys) (xs ≡ ys)
all_same xs ys = slice_eq-Decides same xs ys _ refl

pub returns : goal.returns
returns c = search (rules, nat_tests, all_same)
