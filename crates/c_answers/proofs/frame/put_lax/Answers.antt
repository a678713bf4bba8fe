use Rattle.c_answers.proofs.Within.{of_frame}
use Rattle.c_answers.proofs.frame.put_lax.Goals as goal

pub packet_of-requires-clause-within : goal.packet_of-requires-clause-within
packet_of-requires-clause-within c = of_frame c.args.link_type c.args.frame.now _ _ c.in-Ok.ensures.reads.reads
