use Rattle.std.proofs.Common.{ℕ, ◌≡◌, ◌-◌, List, length}
use Rattle.std.specs.Io.KnownBytes.{Consumes}
use Rattle.iphead.specs.Input.{digits_of}
use Rattle.iphead.proofs.input.read_digits.Given as goal

-- the bytes that the reader has lost, of which these are the digits and the number
abbrev pub invariant-loop-n : goal.invariant-loop-n
invariant-loop-n g l =
    let remaining = g.R.Read.remaining in
    (seen : List ℕ) × Consumes (remaining l.fn.reader) (remaining l.reader) seen × (l.input.digits.items ≡ digits_of seen) × (l.input.len ≡ length seen)

abbrev pub decreases-loop-n : goal.decreases-loop-n
decreases-loop-n g l = 65536 - l.input.len
