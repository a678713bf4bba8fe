use Rattle.std.proofs.Common.{◌≡◌, ◌≤◌, ◌+◌, length}
use Rattle.packet_filter.specs.Private.Machine.{complete}
use Rattle.packet_filter.proofs.machine.Machine.complete.Given as goal

abbrev pub invariant-nots : goal.invariant-nots
invariant-nots l = record {
  same : complete l.head l.self.waiting l.self.steps.items ≡ complete l.head l.fn.self.waiting l.fn.self.steps.items;
  size : length l.self.waiting + length l.self.steps.items ≤ length l.fn.self.waiting + length l.fn.self.steps.items;
}

abbrev pub decreases-nots : goal.decreases-nots
decreases-nots l = length l.self.waiting
