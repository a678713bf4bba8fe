use Rattle.std.proofs.Common.{Some, ap, arith, false}
use Rattle.packet_reassembly.proofs.TableLaws.{held_none, table_none}
use Rattle.packet_reassembly.proofs.ip_defrag_buf.IpDefragBuf.clear.Goals as goal

pub clear-requires-clause-others : goal.clear-requires-clause-others
clear-requires-clause-others c = λ k from. grind (arith, c.self.invariant.table.within k, c.div_ceil.ensures)

pub invariant_of-self : goal.invariant_of-self
invariant_of-self c = record {
  room = c.self.invariant.room;
  table = table_none c.clear.new.units (rw c.clear.ensures.len c.self.invariant.table.len) c.clear.ensures.empty;
}

pub returns : goal.returns
returns c = record { empty = ap Some (held_none c.self.inside.bytes.now c.clear.new.units (record { reach = 0; ended = false; units = 0 }) c.clear.ensures.empty) }
