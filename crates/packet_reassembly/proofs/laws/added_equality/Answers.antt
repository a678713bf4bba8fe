use Rattle.std.proofs.Common.{◌≡◌, ◌↔◌, IsTrue, Option, arith, rules}
use Rattle.std.proofs.lemmas.Bool.Decides.{nat_tests}
use Rattle.std.specs.Option.{option_eq}
use Rattle.packet_reassembly.specs.contracts.ip_defrag_pool.DatagramStatePartialEq.TheImpl as state_derived
use Rattle.packet_reassembly.specs.contracts.ip_frag_id.IpFragIdPartialEq.TheImpl as id_derived
use Rattle.packet_reassembly.specs.declared.ip_defrag_pool.Added.{Added}
use Rattle.packet_reassembly.specs.declared.ip_frag_id.IpFragId.{IpFragId}
use Rattle.packet_reassembly.proofs.laws.added_equality.Goals as goal

same : (a b : IpFragId) → IsTrue ((id_derived.ghosts).eq a b) ↔ (a ≡ b)
same a b = search rules

given_up_eq : (a b : Option IpFragId) → IsTrue (option_eq (id_derived.ghosts).eq a b) ↔ (a ≡ b)
given_up_eq a b = grind (arith, same)

pub returns : goal.returns
returns c =
    let a : Added = c.args.one.now in let b : Added = c.args.other.now in
    let state : IsTrue ((state_derived.ghosts).eq a.state b.state) ↔ (a.state ≡ b.state) = search rules in
    record { same_value = grind (arith, nat_tests, c.eq.ensures, state, given_up_eq a.given_up b.given_up) }
