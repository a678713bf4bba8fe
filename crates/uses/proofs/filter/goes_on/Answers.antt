use Rattle.std.proofs.Common.{Ok, rules}
use Rattle.uses.proofs.filter.goes_on.Goals as goal

pub returns-clause-yes : goal.returns-clause-yes
returns-clause-yes c = λ header rest begins above. search (rules, c.from_slice.ensures.reads.only (Ok (header, rest)) begins, c.is_ok_and.ensures)

pub returns-clause-no : goal.returns-clause-no
returns-clause-no c = λ header rest begins last.
    search (rules, c.from_slice.ensures.reads.only (Ok (header, rest)) begins, c.is_ok_and.ensures)
