use Rattle.std.proofs.Common.{length}
use Rattle.c_answers.proofs.Whole.{whole_frame}
use Rattle.c_answers.proofs.frame.strict_from_link_type.Goals as goal

pub returns-in-Some : goal.returns-in-Some
returns-in-Some c = record {
  reads = rw (← c.in-Some.ensures.value)
      (whole_frame c.in-Some.link_type c.args.frame.now (length c.args.frame.now) c.args.checksums _ _ c.put_as_read.ensures.reads (c.refuse_stopped.ensures.whole, c.refuse_stopped.ensures.refused));
}
