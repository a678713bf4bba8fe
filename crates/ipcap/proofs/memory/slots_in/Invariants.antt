use Rattle.std.proofs.Common.{◌≡◌, ◌≤◌, ◌-◌, ◌*◌, All, None, length, vec_len}
use Rattle.ipcap.proofs.memory.slots_in.Given as goal

abbrev pub invariant-slots : goal.invariant-slots
invariant-slots l = record {
  free : All (λ slot. slot.id ≡ None) l.slots.items;
  few : vec_len l.slots ≤ 32;
  memory : (32 - vec_len l.slots) * 75007 ≤ length l.memory;
}

abbrev pub decreases-slots : goal.decreases-slots
decreases-slots l = 32 - vec_len l.slots
