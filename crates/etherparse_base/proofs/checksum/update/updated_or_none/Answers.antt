use Rattle.std.proofs.Common.{arith}
use Rattle.std.proofs.lemmas.Bool.Decides.{nat_tests}
use Rattle.etherparse_base.proofs.WordSumLaws.{updates_with_no_zero}
use Rattle.etherparse_base.proofs.checksum.update.updated_or_none.Goals as goal

pub returns-then-checksum-eq0-clause-updates : goal.returns-then-checksum-eq0-clause-updates
returns-then-checksum-eq0-clause-updates c = updates_with_no_zero c.args.words _ _ _ _ _ (omega arith) c.requires.old c.updated-change.ensures.value c.updated-change.ensures.updates (grind (arith, nat_tests))

pub returns-clause-updates : goal.returns-clause-updates
returns-clause-updates c = updates_with_no_zero c.args.words _ _ _ _ _ (omega arith) c.requires.old c.updated-change.ensures.value c.updated-change.ensures.updates (grind (arith, nat_tests))
