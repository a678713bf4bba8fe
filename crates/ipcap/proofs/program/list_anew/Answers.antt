use Rattle.std.proofs.Common.{◌∙◌, Some}
use Rattle.ipcap.proofs.program.list_anew.Goals as goal

pub new-reassembly-requires-clause-free : goal.new-reassembly-requires-clause-free
new-reassembly-requires-clause-free g c = rw c.deref_mut-2.ensures.value c.in_ok-slots.ensures.free

pub returns-clause-runs : goal.returns-clause-runs
returns-clause-runs g c = record {
  memory = Some c.new-reassembly.result;
  fresh = rw (c.if-not-reassembles.false, c.new-reassembly.ensures.slots) (c.deref_mut-2.ensures.len ∙ c.in_ok-slots.ensures.len, rw c.deref_mut-2.ensures.value c.in_ok-slots.ensures.free);
  runs = c.list-2.ensures.runs;
}
