use Rattle.std.proofs.Common.{◌∙◌}
use Rattle.etherparse_base.proofs.ValueTypeOrder.{value_type_cmp}
use Rattle.etherparse_base.proofs.laws.value_type_order.Goals as goal

pub returns : goal.returns
returns c = record { by_index = c.cmp.ensures ∙ value_type_cmp c.args.a.now c.args.b.now }
