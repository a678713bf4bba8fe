use Rattle.std.proofs.Common.{◌≡◌, ◌↔◌, Bool, IsTrue, Option, ℕ, nat_eq, refl, rules, tests}
use Rattle.std.proofs.lemmas.Slice.Eq.{slice_eq-Decides}
use Rattle.std.specs.Bool.{Decides}
use Rattle.std.specs.Option.{option_eq}
use Rattle.std.specs.Prelude.{◌&&◌}
use Rattle.etherparse_transport.specs.contracts.tcp_option_element.TcpOptionElementPartialEq.TheImpl as derived
use Rattle.etherparse_transport.specs.declared.tcp_option_element.TcpOptionElement.{TcpOptionElement}
use Rattle.etherparse_transport.specs.declared.tcp_option_element.TcpOptionElement.TheVariants as element
use Rattle.etherparse_transport.proofs.laws.tcp_option_element_equality.Goals as goal

abbrev block_eq : Option (ℕ × ℕ) → Option (ℕ × ℕ) → Bool
block_eq = option_eq (λ x y. nat_eq x.0 y.0 && nat_eq x.1 y.1)

same_block : (a b : Option (ℕ × ℕ)) → Decides (block_eq a b) (a ≡ b)
same_block a b = search (tests, rules)

same : (a b : TcpOptionElement) → IsTrue ((derived.ghosts).eq a b) ↔ (a ≡ b)
same (element.SelectiveAcknowledgement p ps) (element.SelectiveAcknowledgement q qs) =
    let blocks : Decides _ (ps ≡ qs) = slice_eq-Decides same_block ps qs _ refl in
    search (tests, rules)
same _ _ = search (tests, rules)

pub returns : goal.returns
returns c = search (rules, same)
