use Rattle.std.proofs.Common.{arith, None, [], ◌≡◌, ◌∷◌}
use Rattle.std.proofs.lemmas.List.Elements.{All-append}
use Rattle.ipcap.proofs.memory.slots_in.Goals as goal

pub slots-preserved : goal.slots-preserved
slots-preserved c =
    let was = c.slots.invariant in
    let more = c.in_ok-push.ensures.len in
    record {
      free = rw c.in_ok-push.ensures.items (All-append (λ slot. slot.id ≡ None) c.slots.slots.items (c.slot_in.result ∷ []) was.free (λ k d within. let first : k ≡ 0 = omega (arith, within) in rw first c.slot_in.ensures.free));
      few = omega (arith, more, c.slots-test.true, c.len.ensures);
      memory = omega (arith, more, was.memory, c.slots-test.true, c.len.ensures, c.split_at_mut-piece.ensures.back_len);
    }
