-- How a run ends.
use Rattle.std.specs.Prelude.{ℕ}
use Rattle.ipcap.specs.declared.status.Status.{Status}
use Rattle.ipcap.specs.declared.status.Status.TheVariants.{Done, CutOff, NoCapture, Refused}

-- the exit status of the process
abbrev pub code_of : Status → ℕ
code_of Done = 0
code_of CutOff = 1
code_of Refused = 1
code_of NoCapture = 2
