use Rattle.std.proofs.Common.{◌≡◌, ◌+◌, drop}
use Rattle.std.specs.List.{prefix_len}
use Rattle.packet_filter.specs.Text.{is_plain}
use Rattle.packet_filter.proofs.text.plain_len.Given as goal

abbrev pub invariant-loop-i : goal.invariant-loop-i
invariant-loop-i l = prefix_len is_plain l.text ≡ l.i + prefix_len is_plain (drop l.i l.text)
