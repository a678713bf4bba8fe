use Rattle.std.proofs.Common.{Bool, IsTrue, List, [], arith, get_or, length, not, ℕ, ◌&&◌, ◌*◌, ◌+◌, ◌∙◌, ◌∷◌, ◌↔◌, ◌≡◌, ◌≤◌}
use Rattle.std.proofs.lemmas.Grind.{common_steps}
use Rattle.std.specs.Prelude.{IsFalse, nat_le}
use Rattle.etherparse_link.specs.Bytes.{number_at}
use Rattle.packet_filter.proofs.Ends.{same_ends}
use Rattle.packet_filter.proofs.holds.has_ports.Goals as goal

all_three : (a b c : Bool) → (IsTrue ((a && not b) && c) ↔ (IsTrue a × IsFalse b × IsTrue c))
all_three a b c = grind (arith, common_steps)

within : (low high n m : ℕ) → n ≡ m → (IsTrue (nat_le low n && nat_le n high) ↔ ((low ≤ m) × (m ≤ high)))
within low high n m e = grind (arith, common_steps)

port : (xs : List ℕ) → 4 ≤ length xs → ((get_or xs 0 0 * 256 + get_or xs 1 0) ≡ number_at 0 xs) × ((get_or xs 2 0 * 256 + get_or xs 3 0) ≡ number_at 2 xs)
port [] long = absurd (omega arith)
port (a ∷ []) long = absurd (omega arith)
port (a ∷ b ∷ []) long = absurd (omega arith)
port (a ∷ b ∷ c ∷ []) long = absurd (omega arith)
port (a ∷ b ∷ c ∷ d ∷ rest) long = (grind (arith, common_steps), grind (arith, common_steps))

pub returns : goal.returns
returns c =
    let ip = c.args.ip.now in
    let low = c.args.low in
    let high = c.args.high in
    let source = c.from_be_bytes-source in
    let destination = c.from_be_bytes-destination in
    let ends = c.of_ends-are_within in
    let ports = port ip.payload.now c.if-payload-lt4.false in
    let all = all_three c.carries.result ip.is_later_fragment ends.result in
    let same = same_ends c.args.direction (nat_le low source.result && nat_le source.result high) (nat_le low destination.result && nat_le destination.result high)
    (number_at 0 ip.payload.now) (number_at 2 ip.payload.now) (λ b. IsTrue b) (λ port. (low ≤ port) × (port ≤ high))
    (within low high source.result _ (source.ensures ∙ ports.0)) (within low high destination.result _ (destination.ensures ∙ ports.1)) in
    record {
      value = (
        λ e. record {
          carries = c.carries.ensures.value.0 (all.0 e).0;
          first = (all.0 e).1;
          enough = c.if-payload-lt4.false;
          ends = same.0 (ends.ensures.value.0 (all.0 e).2);
        },
        λ p. all.1 (c.carries.ensures.value.1 p.carries, p.first, ends.ensures.value.1 (same.1 p.ends)),
      );
    }
