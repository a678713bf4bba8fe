use Rattle.std.proofs.Common.{sym}
use Rattle.uses.proofs.forward.ipv4_rewritten.Goals as goal

pub returns-clause-cleared : goal.returns-clause-cleared
returns-clause-cleared c = λ front whole. sym (c.to_bytes.ensures.only _ (c.in_ok-header.ensures.reads.cleared front whole))
