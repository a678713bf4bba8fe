use Rattle.std.proofs.Common.{Some, false}
use Rattle.ipcap.proofs.Runs.{on_ok}
use Rattle.ipcap.proofs.request.Request.list_line.Goals as goal

pub returns-clause-told : goal.returns-clause-told
returns-clause-told g c =
    on_ok c.list_packet.result (λ told. record { found = Some c.read_numbered-reading.result; reads = (c.requires.chosen, rw c.left_out.ensures.value at c.read_numbered-reading.ensures.reads); tells = told false }) c.list_packet.ensures.told
