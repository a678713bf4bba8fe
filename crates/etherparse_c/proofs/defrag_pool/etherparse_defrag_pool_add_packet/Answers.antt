use Rattle.std.proofs.Common.{inl, inr, rules}
use Rattle.etherparse_c.proofs.defrag_pool.etherparse_defrag_pool_add_packet.Goals as goal

pub returns-in-Ok-Some-clause-adds : goal.returns-in-Ok-Some-clause-adds
returns-in-Ok-Some-clause-adds c = inl (record {
  added = c.in-Ok-Some.added;
  is_added = search (rules, c.in-Ok-Some.ensures.added, c.slots.view_is, c.get-slots.ensures.value);
  in_c = c.of.ensures.value;
})

pub returns-in-Ok-None-clause-adds : goal.returns-in-Ok-None-clause-adds
returns-in-Ok-None-clause-adds c = inr (inl (record {
  is_none = search (rules, c.in-Ok-None.ensures.none);
  in_c = rw c.of_kind.ensures.value at c.none.ensures.value;
  unchanged = search (rules, c.in-Ok-None.ensures.kept, c.slots.view_is, c.get-slots.ensures.value);
}))

pub returns-in-Err-clause-adds : goal.returns-in-Err-clause-adds
returns-in-Err-clause-adds c = inr (inr (record {
  e = c.in-Err.e;
  refuses = c.in-Err.ensures.refused;
  in_c = rw c.of_packet.ensures.value at c.none-in-Err.ensures.value;
  unchanged = search (rules, c.in-Err.ensures.unchanged, c.slots.view_is, c.get-slots.ensures.value);
}))
