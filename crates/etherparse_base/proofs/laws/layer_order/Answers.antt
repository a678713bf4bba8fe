use Rattle.std.proofs.Common.{◌∙◌}
use Rattle.etherparse_base.proofs.LayerOrder.{layer_cmp}
use Rattle.etherparse_base.proofs.laws.layer_order.Goals as goal

pub returns : goal.returns
returns c = record { by_index = c.cmp.ensures ∙ layer_cmp c.args.a.now c.args.b.now }
