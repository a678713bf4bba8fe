-- How a run ends.
use Rattle.std.specs.Prelude.{ℕ}
use Rattle.iphead.specs.declared.status.Status.{Status}
use Rattle.iphead.specs.declared.status.Status.TheVariants.{Done, Refused, BadInput, Failed}

-- the exit status of the process
abbrev pub code_of : Status → ℕ
code_of Done = 0
code_of Refused = 1
code_of BadInput = 2
code_of Failed = 3
