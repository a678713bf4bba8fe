use Rattle.std.proofs.Common.{◌≡◌, arith, false, inr, rules, sym, take, tests, true, ◌∙◌}
use Rattle.std.proofs.lemmas.Iterator.{YieldsList-from_slice}
use Rattle.std.proofs.lemmas.Iterator.Search.{all_from_yields_List}
use Rattle.std.specs.List.{list_all}
use Rattle.packet_filter.specs.Text.{is_space}
use Rattle.packet_filter.specs.declared.reading.FilterError.TheVariants.{Unexpected}
use Rattle.ipcap.proofs.arguments.names_file.Goals as goal

false_is : ¬ (false ≡ true)
false_is e = grind arith

pub returns-then-place-word : goal.returns-then-place-word
returns-then-place-word c =
    let refused = rw c.in-Err-Unexpected.field-0-is at c.in-Err-Unexpected.ensures.refused in
    let front = take c.in-Err-Unexpected.place c.args.word.now in
    let e : c.all.result ≡ list_all is_space front = all_from_yields_List is_space _ _ c.all.result c.all.ensures.ran (YieldsList-from_slice front cc) (λ x b q k. search (rules, tests)) in
    record {
      yes = λ yes. record { place = c.in-Err-Unexpected.place; expected = c.in-Err-Unexpected.field-0-1; refused = refused; first = (c.if-place-word.true, sym e ∙ yes) };
      no = λ no. inr (Unexpected c.in-Err-Unexpected.place c.in-Err-Unexpected.field-0-1, refused, λ first. false_is (sym no ∙ e ∙ first.1));
    }
