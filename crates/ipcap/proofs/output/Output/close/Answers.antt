use Rattle.ipcap.proofs.Runs.{on_any_ok, on_err}
use Rattle.ipcap.proofs.Said.{all_handed_over, front_handed_over, nothing_printed}
use Rattle.ipcap.proofs.output.Output.close.Goals as goal

pub returns-in_err-print-clause-front : goal.returns-in_err-print-clause-front
returns-in_err-print-clause-front g c = on_err _ (nothing_printed _ _ _ _ c.in_err-print.ensures.kept)

pub returns-clause-prints : goal.returns-clause-prints
returns-clause-prints g c = on_any_ok _ (all_handed_over _ _ _ _ _ c.in_ok-print.ensures.prints c.hand_over.ensures.kept)

pub returns-clause-front : goal.returns-clause-front
returns-clause-front g c = on_err _ (front_handed_over _ _ _ _ _ c.in_ok-print.ensures.prints c.hand_over.ensures.kept)
