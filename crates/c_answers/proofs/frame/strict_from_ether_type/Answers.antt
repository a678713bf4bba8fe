use Rattle.std.proofs.Common.{Some, length}
use Rattle.c_answers.proofs.Whole.{whole_bytes}
use Rattle.c_answers.proofs.frame.strict_from_ether_type.Goals as goal

pub returns : goal.returns
returns c = record {
  reads = whole_bytes (Some c.args.ether_type) c.args.bytes.now (length c.args.bytes.now) c.args.checksums _ _ c.lax_from_ether_type.ensures.reads (c.refuse_stopped.ensures.whole, c.refuse_stopped.ensures.refused);
}
