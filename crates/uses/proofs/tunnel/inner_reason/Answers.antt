use Rattle.std.proofs.Common.{rules, zero-add}
use Rattle.uses.proofs.tunnel.inner_reason.Goals as goal

pub returns : goal.returns
returns c = search (rules, rw (c.add_offset-moved.ensures.moved, c.requires, zero-add, c.header_len.ensures.value) at c.format.ensures.ok)
