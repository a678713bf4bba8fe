use Rattle.std.proofs.Common.{◌+◌, ◌-◌, ◌/◌, ◌==◌, ◌∙◌, arith, slice_range, sym}
use Rattle.std.proofs.lemmas.Bool.Decides.{Decides-eqb}
use Rattle.std.proofs.lemmas.List.{get_or_default}
use Rattle.std.proofs.lemmas.List.Edits.{get_or-between}
use Rattle.std.proofs.lemmas.List.Elements.{contains_decides}
use Rattle.packet_reassembly.proofs.table.begins_inside.Goals as goal

pub returns : goal.returns
returns c =
    let units = c.args.units.now in
    let a = c.args.range.start / 8 + 1 in
    let b = c.div_ceil-after.result in
    let any = contains_decides (λ y x. y == x) Decides-eqb (slice_range units a b) 1 c.contains.result c.contains.ensures.cases in record {
      some = λ t. let (k, w, is) = any.0 t in (a + k, (omega arith, omega arith), sym (get_or-between units a b k 0 (omega arith)) ∙ is 0);
      none = λ f k inside begins. let t = any.1 (k - a, omega arith, λ d. get_or-between units a b (k - a) d (omega arith) ∙ grind (arith, get_or_default units k d 0)) in cc;
    }
