use Rattle.std.proofs.Common.{rules}
use Rattle.etherparse_base.proofs.err.len_error.LenError.add_offset.Goals as goal

pub returns : goal.returns
returns c = search rules
