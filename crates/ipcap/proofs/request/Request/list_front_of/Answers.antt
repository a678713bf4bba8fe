use Rattle.std.proofs.Common.{[], ◌++◌, ap, false, refl, sym, true}
use Rattle.ipcap.specs.Listing.{if_too_long, written}
use Rattle.ipcap.specs.Request.{copies}
use Rattle.ipcap.specs.Streams.{kept_if}
use Rattle.ipcap.specs.Totals.{no_packet, packet}
use Rattle.ipcap.proofs.Runs.{kept_nothing, on_ok, written_long}
use Rattle.ipcap.proofs.request.Request.list_front_of.Goals as goal

pub returns-in-Packet-clause-told : goal.returns-in-Packet-clause-told
returns-in-Packet-clause-told g c = on_ok c.list_too_long.result (λ t. record {
  told = packet false c.in-Packet.head (if_too_long c.args.self.now);
  is = rw c.in-Packet.is refl;
  counts = t.counts;
  line = written c.args.self.now c.args.totals.now (packet false c.in-Packet.head (if_too_long c.args.self.now)) [];
  prints = t.prints;
  all = rw c.in-Packet.is (written_long c.args.self.now c.args.totals.now c.in-Packet.head);
}) c.list_too_long.ensures.told

pub returns-in-Other-clause-told : goal.returns-in-Other-clause-told
returns-in-Other-clause-told g c = on_ok c.list_other.result (λ t. let u = t true in record {
  told = no_packet;
  is = rw c.in-Other.is refl;
  counts = u.counts;
  line = kept_if (copies c.args.self.now.mode) [];
  prints = u.prints;
  all = rw c.in-Other.is (λ bytes. ap (λ x. x ++ kept_if (copies c.args.self.now.mode) bytes) (sym (kept_nothing (copies c.args.self.now.mode))));
}) c.list_other.ensures.told
