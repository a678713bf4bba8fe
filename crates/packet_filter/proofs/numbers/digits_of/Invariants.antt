use Rattle.std.proofs.Common.{◌≡◌, drop}
use Rattle.packet_filter.specs.Numbers.{with_digits}
use Rattle.packet_filter.proofs.numbers.digits_of.Given as goal

abbrev pub invariant-loop-digit : goal.invariant-loop-digit
invariant-loop-digit l = with_digits l.base l.number (drop l.digit-index l.word) ≡ with_digits l.base 0 l.word
