use Rattle.std.proofs.Common.{◌≡◌, ◌∙◌, ap, ap₂, map, refl, subst, sym, true, [], ◌∷◌, List}
use Rattle.std.proofs.lemmas.Result.{IfOk-weaker}
use Rattle.std.specs.List.{list_all}
use Rattle.clap.specs.Simple.{app_of_fields}
use Rattle.clap.specs.Words.{App, Rule, app_of, rule_of}
use Rattle.ipcap.specs.Options.{app_with, options}
use Rattle.ipcap.proofs.Options.{with_each}
use Rattle.ipcap.proofs.arguments.command.Goals as goal

pub returns : goal.returns
unfolding options
returns c =
    let start : app_of c.after_help.result ≡ app_with [] = ap app_of_fields c.after_help.ensures ∙ (ap app_of_fields c.about.ensures ∙ (ap app_of_fields c.version.ensures ∙ ap (λ (a : App). record a { top = record a.top { has_version = true } }) c.new.ensures.app)) in
    let made : map rule_of c.in_ok-args.args.items ≡ options = ap (map rule_of) c.in_ok-args.ensures.items
    ∙ ap₂ ◌∷◌ c.with_value.ensures.rule (ap₂ ◌∷◌ c.with_value-2.ensures.rule (ap₂ ◌∷◌ c.limit.ensures.rule (ap₂ ◌∷◌ c.flag.ensures.rule (ap₂ ◌∷◌ c.flag-2.ensures.rule
    (ap₂ ◌∷◌ c.numbers.ensures.rule (ap₂ ◌∷◌ c.flag-3.ensures.rule (ap₂ ◌∷◌ c.flag-4.ensures.rule (ap₂ ◌∷◌ c.file.ensures.rule (ap₂ ◌∷◌ c.expression.ensures.rule refl))))))))) in
    let simple = subst (λ (rules : List Rule). list_all (λ (r : Rule). r.is_simple) rules ≡ true) (sym made) refl in
    record { options = IfOk-weaker c.args-2.result _ _ (λ command added. with_each _ command _ [] added start simple ∙ ap app_with made) c.args-2.ensures }
