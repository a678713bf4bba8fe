use Rattle.std.proofs.Common.{◌++◌, ◌-◌, ◌∙◌, ℕ, List, ap, arith, length}
use Rattle.std.proofs.Math.ListN.{get_or-append}
use Rattle.std.proofs.lemmas.Grind.{common_steps}
use Rattle.etherparse.specs.Bytes.{IsBytes}
use Rattle.etherparse_transport.proofs.tcp_header.joined.Goals as goal

append_is_bytes : (p q : List ℕ) → IsBytes p → IsBytes q → IsBytes (p ++ q)
append_is_bytes p q a b i = grind (arith, common_steps, get_or-append p q 0 i, a i, b (i - length p))

pub returns-clause-parts : goal.returns-clause-parts
returns-clause-parts c =
    let first = rw c.unwrap.ensures at c.try_extend_from_slice.ensures.ok in
    let second = rw c.unwrap-2.ensures at c.try_extend_from_slice-2.ensures.ok in
    second ∙ ap (λ x. x ++ c.args.options.now) (first ∙ ap (λ x. x ++ c.args.front.now) c.new-bytes.ensures)

pub returns-clause-are_bytes : goal.returns-clause-are_bytes
returns-clause-are_bytes c =
    append_is_bytes c.args.front.now c.args.options.now (λ i. omega (arith, c.type_inv.front i)) (λ i. omega (arith, c.type_inv.options i))
