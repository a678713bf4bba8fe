use Rattle.std.proofs.Common.{◌≡◌, ◌+◌, drop}
use Rattle.packet_filter.specs.Numbers.{index_of}
use Rattle.packet_filter.proofs.numbers.index_of.Given as goal

abbrev pub invariant-loop-i : goal.invariant-loop-i
invariant-loop-i l = index_of l.byte l.word ≡ l.i + index_of l.byte (drop l.i l.word)
