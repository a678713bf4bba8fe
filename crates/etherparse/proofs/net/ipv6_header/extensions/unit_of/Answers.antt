use Rattle.std.proofs.Common.{rules, ℕ, ◌≡◌, ◌==◌, ◌↔◌, not, get_or, refl, arith}
use Rattle.std.proofs.lemmas.Bool.{agree_below_at}
use Rattle.std.proofs.lemmas.Bool.Decides.{nat_tests}
use Rattle.etherparse_fields.specs.ExtensionHeaders.{IsSkippable}
use Rattle.etherparse.proofs.Walks.{is_skippable}
use Rattle.etherparse.specs.declared.net.ipv6_header.extensions.TheConstants.{UNITS}
use Rattle.etherparse.proofs.net.ipv6_header.extensions.unit_of.Goals as goal

by_test : (n unit : ℕ) → (unit == 1) ≡ not (is_skippable n) → (unit ≡ 1) ↔ (IsSkippable n → ⊥)
by_test n unit h = (grind (arith, nat_tests), grind (arith, nat_tests))

-- the table has 1 at each number of no header that can be skipped, and only there
pub returns-clause-skippable : goal.returns-clause-skippable
returns-clause-skippable c = rw (c.from.ensures, c.number.view_is)
    (by_test c.args.number _ (agree_below_at (λ k. get_or UNITS k 0 == 1) (λ k. not (is_skippable k)) 256 c.args.number refl (omega arith)))

pub returns-clause-len : goal.returns-clause-len
returns-clause-len c = search rules
