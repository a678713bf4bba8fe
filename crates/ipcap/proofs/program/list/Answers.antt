use Rattle.std.proofs.Common.{inl, inr, refl}
use Rattle.std.proofs.lemmas.Bool.Decides.{not_from_Decides}
use Rattle.ipcap.proofs.program.list.Goals as goal

pub returns-in-Ok : goal.returns-in-Ok
returns-in-Ok g c = record {
  runs = inl (record { status = c.in-Ok.status; is_code = c.code.ensures.value; writes = c.in-Ok.ensures.output; unfailed = c.in-Ok.ensures.unfailed; unfailed_writes = c.in-Ok.ensures.unfailed_writes });
}

pub returns-then-is_unread : goal.returns-then-is_unread
returns-then-is_unread g c = let unread = c.is_unread.ensures.value.0 c.if-is_unread.true in record {
  runs = inr (record { of = c.in-Err.failure; why = _; is_why = c.reason_of-why.ensures.why; is_code = refl; mid = c.run.new.errors; fails = c.in-Err.ensures.failed; said = λ read. absurd (read unread); silent = λ same. refl });
}

pub returns-else-is_unread : goal.returns-else-is_unread
returns-else-is_unread g c = let read = not_from_Decides _ c.is_unread.ensures.value c.if-is_unread.false in record {
  runs = inr (record { of = c.in-Err.failure; why = _; is_why = c.reason_of-why.ensures.why; is_code = refl; mid = c.run.new.errors; fails = c.in-Err.ensures.failed; said = λ other. rw (c.as_bytes.ensures.value, c.reason_of-why.ensures.what) at c.say.ensures.says; silent = λ unread. absurd (read unread) });
}
