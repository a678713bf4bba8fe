use Rattle.std.proofs.Common.{◌≡◌, rules, sym, tests, ◌∙◌}
use Rattle.std.proofs.lemmas.Iterator.{YieldsList-from_slice}
use Rattle.std.proofs.lemmas.Iterator.Search.{all_from_yields_List}
use Rattle.std.specs.List.{list_all}
use Rattle.packet_filter.specs.Text.{is_space}
use Rattle.ipcap.proofs.request.read_filter.Goals as goal

pub returns-then-all-clause-read : goal.returns-then-all-clause-read
returns-then-all-clause-read c =
    let e : c.all.result ≡ list_all is_space c.args.text.now = all_from_yields_List is_space _ _ c.all.result c.all.ensures.ran (YieldsList-from_slice c.args.text.now cc) (λ x b q k. search (rules, tests)) in
    sym e ∙ c.if-all.true

pub returns-in-Err-clause-refused : goal.returns-in-Err-clause-refused
returns-in-Err-clause-refused c =
    let e : c.all.result ≡ list_all is_space c.args.text.now = all_from_yields_List is_space _ _ c.all.result c.all.ensures.ran (YieldsList-from_slice c.args.text.now cc) (λ x b q k. search (rules, tests)) in
    (c.in-Err.ensures.refused, sym e ∙ c.if-all.false)
