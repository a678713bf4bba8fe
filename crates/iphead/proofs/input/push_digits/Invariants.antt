use Rattle.std.proofs.Common.{◌≡◌, ◌≤◌, ◌++◌, length, take}
use Rattle.iphead.specs.Input.{digits_of}
use Rattle.iphead.proofs.input.push_digits.Given as goal

abbrev pub invariant-loop-byte : goal.invariant-loop-byte
invariant-loop-byte l =
    (l.digits.items ≡ l.fn.digits.items ++ digits_of (take l.byte-index l.piece))
    × (length l.fn.digits.items ≤ 4096 → length l.digits.items ≤ 4096)
