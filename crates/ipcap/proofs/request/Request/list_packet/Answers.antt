use Rattle.std.proofs.Common.{inl, inr}
use Rattle.ipcap.proofs.Runs.{on_ok, prints_nothing}
use Rattle.ipcap.proofs.request.Request.list_packet.Goals as goal

pub returns-in-Lines-clause-told : goal.returns-in-Lines-clause-told
returns-in-Lines-clause-told g c = on_ok c.print.result (λ p is_long.
    let counts = c.count.ensures.counted c.if-not-count.false is_long c.args.is_reassembled in record { counts = counts; prints = rw c.in-Lines.is (rw counts at p) }) c.print.ensures.prints

pub returns-in-Packets-clause-told : goal.returns-in-Packets-clause-told
returns-in-Packets-clause-told g c = on_ok c.copy.result (λ p is_long.
    record { counts = c.count.ensures.counted c.if-not-count.false is_long c.args.is_reassembled; prints = rw c.in-Packets.is p }) c.copy.ensures.prints

pub returns-in-Quiet-clause-told : goal.returns-in-Quiet-clause-told
returns-in-Quiet-clause-told g c = elim c.in-Quiet.is [
  | inl mode ↦ λ is_long. record { counts = c.count.ensures.counted c.if-not-count.false is_long c.args.is_reassembled; prints = rw mode (prints_nothing _ _) }
  | inr mode ↦ λ is_long. record { counts = c.count.ensures.counted c.if-not-count.false is_long c.args.is_reassembled; prints = rw mode (prints_nothing _ _) }
]
