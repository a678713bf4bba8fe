use Rattle.std.proofs.Common.{arith}
use Rattle.std.proofs.lemmas.Grind.{common_steps}
use Rattle.ipcap.proofs.Runs.{takes_both, takes_nothing}
use Rattle.ipcap.proofs.run.fill_to_front.Goals as goal

pub reads-init : goal.reads-init
reads-init g c = record { takes = takes_nothing _ _; unfailed = λ x. x; goes_on = c.requires.reads_on }

pub reads-preserved : goal.reads-preserved
reads-preserved g c = let was = c.reads.invariant in record {
  takes = takes_both _ _ _ _ _ _ was.takes c.in_ok-fill.ensures.takes;
  unfailed = λ x. was.unfailed (c.in_ok-fill.ensures.unfailed x);
  goes_on = grind (arith, common_steps);
}

pub returns : goal.returns
returns g c = record { enough = grind (arith, common_steps); failed = grind (arith, common_steps); goes_on = grind (arith, common_steps); takes = grind (arith, common_steps); unfailed = grind (arith, common_steps) }

pub returns-in_err-fill : goal.returns-in_err-fill
returns-in_err-fill g c = record { enough = grind (arith, common_steps); failed = grind (arith, common_steps); goes_on = grind (arith, common_steps); takes = grind (arith, common_steps); unfailed = grind (arith, common_steps) }

pub returns-then-not-branch : goal.returns-then-not-branch
returns-then-not-branch g c = record { enough = grind (arith, common_steps); failed = grind (arith, common_steps); goes_on = grind (arith, common_steps); takes = grind (arith, common_steps); unfailed = grind (arith, common_steps) }
