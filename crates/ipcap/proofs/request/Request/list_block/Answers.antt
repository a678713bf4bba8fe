use Rattle.std.proofs.Common.{None, false, refl}
use Rattle.ipcap.specs.Totals.{no_packet}
use Rattle.ipcap.proofs.Runs.{on_ok}
use Rattle.ipcap.proofs.Taken.{stays, told_as}
use Rattle.ipcap.proofs.request.Request.list_block.Goals as goal

pub returns-in-Other-clause-told : goal.returns-in-Other-clause-told
returns-in-Other-clause-told g c = on_ok c.list_other.result (λ t. rw c.in-Other.is (record { told = no_packet; mid = c.args.place.now.totals; is = (refl, refl); counts = (t false).counts; prints = (t false).prints })) c.list_other.ensures.told

pub returns-in-None-clause-told : goal.returns-in-None-clause-told
returns-in-None-clause-told g c = on_ok c.list_frame.result
    (λ t. rw c.in-Packet.is (told_as _ _ c.args.place.now.totals c.args.place.now.totals c.list_frame.new.totals c.args.place.now.memory c.args.place.now.memory None c.in-Packet.head c.args.bytes.now c.in-Packet.frame.now _ _ (stays c.in-Packet.head c.in-Packet.frame.now c.args.place.now.totals c.args.place.now.memory c.in-None.is) t))
    c.list_frame.ensures.told
