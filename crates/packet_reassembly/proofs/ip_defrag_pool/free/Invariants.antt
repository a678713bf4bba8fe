use Rattle.std.proofs.Common.{ℕ, ◌≢◌, ◌<◌, ◌≤◌, ◌-◌, length, None}
use Rattle.packet_reassembly.specs.Pool.{slot_at}
use Rattle.packet_reassembly.proofs.ip_defrag_pool.free.Given as goal

abbrev pub invariant-loop-k : goal.invariant-loop-k
invariant-loop-k l = record {
  within : l.oldest < length l.slots;
  taken : (j : ℕ) → j < l.k → (slot_at l.slots j).id ≢ None;
  oldest : (j : ℕ) → j < l.k → (slot_at l.slots l.oldest).since ≤ (slot_at l.slots j).since;
  first : (j : ℕ) → j < l.oldest → (slot_at l.slots l.oldest).since < (slot_at l.slots j).since;
}

abbrev pub decreases-loop-k : goal.decreases-loop-k
decreases-loop-k l = length l.slots - l.k
