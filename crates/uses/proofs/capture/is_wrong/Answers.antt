use Rattle.std.proofs.Common.{inl}
use Rattle.uses.proofs.capture.is_wrong.Goals as goal

pub returns-in_default : goal.returns-in_default
returns-in_default c = record {
  yes = tt;
  no = inl (c.verdict.result, record { parts = c.in-Ok.slice; is_packet = c.in-Ok.ensures.found; judges = c.verdict.ensures.judges }, c.in_default.not-Wrong);
}
