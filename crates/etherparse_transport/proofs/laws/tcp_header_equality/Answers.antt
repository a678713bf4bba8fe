use Rattle.std.proofs.Common.{◌≡◌, ◌↔◌, Bool, IsTrue, List, ℕ, nat_eq, rules, tests}
use Rattle.std.specs.Bool.{beq}
use Rattle.std.specs.Cmp.Lexicographic.{pointwise}
use Rattle.std.specs.Prelude.{◌&&◌, ◌==◌}
use Rattle.etherparse_transport.specs.contracts.tcp_header.TcpHeaderPartialEq.TheImpl as derived
use Rattle.etherparse_transport.specs.declared.tcp_header.TcpHeader.{TcpHeader}
use Rattle.etherparse_transport.proofs.laws.tcp_header_equality.Goals as goal

both : {P Q : Type 0} {t u : Bool} → (IsTrue t ↔ P) → (IsTrue u ↔ Q) → IsTrue (t && u) ↔ (P × Q)
both h k = search (rules, tests)

number : (a b : ℕ) → IsTrue (a == b) ↔ (a ≡ b)
number a b = search (tests, rules)

flag : (a b : Bool) → IsTrue (beq a b) ↔ (a ≡ b)
flag a b = search (tests, rules)

bytes : (a b : List ℕ) → IsTrue (pointwise nat_eq a b) ↔ (a ≡ b)
bytes a b = search (tests, rules)

same : (a b : TcpHeader) → IsTrue ((derived.ghosts).eq a b) ↔ (a ≡ b)
same a b =
    let parts = both (number a.source_port b.source_port) (both (number a.destination_port b.destination_port) (both (number a.sequence_number b.sequence_number) (both (number a.acknowledgment_number b.acknowledgment_number) (both (flag a.ns b.ns) (both (flag a.fin b.fin) (both (flag a.syn b.syn) (both (flag a.rst b.rst) (both (flag a.psh b.psh) (both (flag a.ack b.ack) (both (flag a.urg b.urg) (both (flag a.ece b.ece) (both (flag a.cwr b.cwr) (both (number a.window_size b.window_size) (both (number a.checksum b.checksum) (both (number a.urgent_pointer b.urgent_pointer) (bytes a.options b.options)))))))))))))))) in
    search (rules, parts)

pub returns : goal.returns
returns c = search (rules, same)
