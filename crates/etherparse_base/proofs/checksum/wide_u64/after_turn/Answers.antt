use Rattle.std.proofs.lemmas.List.{take_rest}
use Rattle.etherparse_base.proofs.checksum.wide_u64.after_turn.Goals as goal

pub returns-clause-after : goal.returns-clause-after
returns-clause-after c = take_rest c.args.bytes.now 96
