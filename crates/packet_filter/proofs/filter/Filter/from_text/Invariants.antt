use Rattle.std.proofs.Common.{◌≤◌, length}
use Rattle.packet_filter.specs.Private.Machine.{size_of, state_of}
use Rattle.packet_filter.proofs.Fronts.{Reached}
use Rattle.packet_filter.proofs.filter.Filter.from_text.Given as goal

abbrev pub invariant-words : goal.invariant-words
invariant-words l = record {
  few : l.count ≤ 64;
  size : size_of (state_of l.machine) ≤ l.count;
  reached : Reached (state_of l.machine) l.fn.text l.rest l.count;
}

abbrev pub decreases-words : goal.decreases-words
decreases-words l = length l.rest
