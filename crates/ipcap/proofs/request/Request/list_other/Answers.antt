use Rattle.ipcap.proofs.Runs.{on_ok}
use Rattle.ipcap.proofs.request.Request.list_other.Goals as goal

pub returns-clause-told : goal.returns-clause-told
returns-clause-told g c =
    on_ok c.copy_if.result (λ p is_long. record { counts = c.pass_block.ensures.counted is_long; prints = rw c.copies.ensures.value at p }) c.copy_if.ensures.prints
