-- Errors are equal exactly if `==` says so.
use Rattle.std.proofs.Common.{◌≡◌, ℕ, Bool, ap, arith, refl, rules, subst}
use Rattle.std.specs.Prelude.{◌&&◌, ◌==◌, ◌↔◌, IsTrue}
use Rattle.std.proofs.lemmas.Bool.Decides.{nat_tests}
use Rattle.packet_filter.proofs.Complete.{not_true}
use Rattle.packet_filter.specs.contracts.expected.ExpectedPartialEq.TheImpl as derived
use Rattle.packet_filter.specs.contracts.reading.FilterErrorPartialEq.TheImpl as error_derived
use Rattle.packet_filter.specs.declared.expected.Expected.{Expected}
use Rattle.packet_filter.specs.declared.expected.Expected.TheVariants as expected
use Rattle.packet_filter.specs.declared.reading.FilterError.{FilterError}
use Rattle.packet_filter.specs.declared.reading.FilterError.TheVariants as error

is_same : (a b : Expected) → IsTrue ((derived.ghosts).eq a b) → a ≡ b
is_same (expected.Operator c o) (expected.Operator d p) h = search (rules, nat_tests, h)
is_same (expected.Address v) (expected.Address w) h = search (rules, nat_tests, h)
is_same (expected.Network v) (expected.Network w) h = search (rules, nat_tests, h)
is_same expected.Operand expected.Operand h = refl
is_same expected.AfterIp expected.AfterIp h = refl
is_same expected.AfterNetwork expected.AfterNetwork h = refl
is_same expected.AfterTransport expected.AfterTransport h = refl
is_same expected.AfterVlan expected.AfterVlan h = refl
is_same expected.AfterDirection expected.AfterDirection h = refl
is_same expected.AfterTransportDirection expected.AfterTransportDirection h = refl
is_same expected.AfterEther expected.AfterEther h = refl
is_same expected.Destination expected.Destination h = refl
is_same expected.AfterAddress expected.AfterAddress h = refl
is_same expected.Mask expected.Mask h = refl
is_same expected.Port expected.Port h = refl
is_same expected.PortRange expected.PortRange h = refl
is_same expected.Protocol expected.Protocol h = refl
is_same expected.EthernetAddress expected.EthernetAddress h = refl
is_same expected.EtherType expected.EtherType h = refl
is_same expected.Fragment expected.Fragment h = refl
is_same expected.Wrong expected.Wrong h = refl
is_same expected.Place expected.Place h = refl
is_same expected.CloseBracket expected.CloseBracket h = refl
is_same expected.Relation expected.Relation h = refl
is_same expected.Number expected.Number h = refl
is_same expected.Bits expected.Bits h = refl
is_same _ _ h = absurd (not_true h)

is_itself : (a : Expected) → IsTrue ((derived.ghosts).eq a a)
is_itself (expected.Operator c o) = search (rules, nat_tests)
is_itself (expected.Address v) = search (rules, nat_tests)
is_itself (expected.Network v) = search (rules, nat_tests)
is_itself _ = refl

expected_eq : (a b : Expected) → IsTrue ((derived.ghosts).eq a b) ↔ (a ≡ b)
expected_eq a b = (is_same a b, λ same. subst (λ x. IsTrue ((derived.ghosts).eq a x)) same (is_itself a))

placed_eq : (t : Bool) (p q : ℕ) (e f : Expected) → (IsTrue t ↔ (e ≡ f)) → IsTrue ((p == q) && t) ↔ (error.Unexpected p e ≡ error.Unexpected q f)
placed_eq t p q e f h = grind (arith, nat_tests)

pub error_eq : (a b : FilterError) → IsTrue ((error_derived.ghosts).eq a b) ↔ (a ≡ b)
error_eq (error.Unexpected p e) (error.Unexpected q f) = placed_eq _ p q e f (expected_eq e f)
error_eq (error.Incomplete e) (error.Incomplete f) = (λ h. ap error.Incomplete ((expected_eq e f).0 h), λ h. (expected_eq e f).1 cc)
error_eq _ _ = search (rules, nat_tests)
