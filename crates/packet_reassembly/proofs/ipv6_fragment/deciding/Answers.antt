use Rattle.std.proofs.Common.{◌≡◌, ◌∙◌, arith, sym}
use Rattle.std.proofs.lemmas.Bool.Decides.{nat_tests}
use Rattle.packet_parts.specs.Extensions.{after_other}
use Rattle.packet_reassembly.proofs.Walked.{atomic_passed}
use Rattle.packet_reassembly.proofs.ipv6_fragment.deciding.Goals as goal

pub returns-then-ne-clause-none : goal.returns-then-ne-clause-none
returns-then-ne-clause-none c = λ body first passes. after_other passes c.requires.skippable (grind (arith, nat_tests)) c.requires.enough

pub returns-in-Ok-2-clause-none : goal.returns-in-Ok-2-clause-none
returns-in-Ok-2-clause-none c = λ body first.
    let is : c.args.number ≡ 44 = grind (arith, nat_tests) in
    let whole = sym c.is_fragmenting_payload.ensures.value ∙ c.if-is_fragmenting_payload.false in
    atomic_passed body c.args.slice.now c.in-Ok.rest.now c.in-Ok.header first c.args.number is c.in-Ok.ensures.reads whole (grind (arith, nat_tests))
