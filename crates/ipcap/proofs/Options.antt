-- Options.
use Rattle.std.proofs.Common.{rules as known, tests, ◌≡◌, ◌++◌, ◌∙◌, ap, append_assoc, map, refl, sym, true, false, List, [], ◌∷◌}
use Rattle.std.proofs.lemmas.Bool.{and_parts}
use Rattle.std.proofs.lemmas.List.{append-nil}
use Rattle.std.specs.List.{list_all}
use Rattle.clap.specs.Built.{AddsArg, AddsInTurn}
use Rattle.clap.specs.Walk.{is_simple_arg}
use Rattle.clap.specs.declared.builder.command.Command.{Command}
use Rattle.clap.specs.Words.{Rule, app_of, is_simple, is_simple_and_free, rule_of, with_rule}
use Rattle.clap.specs.declared.builder.arg.Arg.{Arg}
use Rattle.ipcap.specs.Options.{app_with, options}

-- the command with one more
not_global : (a : Arg) → is_simple_arg a ≡ true → a.global ≡ false
not_global a simple = search (known, tests)

with_one_more : (old new : Command) (a : Arg) (rules : List Rule) → AddsArg old a new → app_of old ≡ app_with rules → (rule_of a).is_simple ≡ true
    → app_of new ≡ app_with (rules ++ rule_of a ∷ [])
with_one_more old new a rules adds was simple = adds.shape (not_global a simple) ∙ ap (λ app. with_rule app (rule_of a)) was

-- and with each of several
pub with_each : (old new : Command) (args : List Arg) (rules : List Rule) → AddsInTurn AddsArg old args new → app_of old ≡ app_with rules
    → list_all (λ (r : Rule). r.is_simple) (map rule_of args) ≡ true → app_of new ≡ app_with (rules ++ map rule_of args)
with_each old new [] rules same was simple = ap app_of (sym same) ∙ (was ∙ ap app_with (sym (append-nil rules)))
with_each old new (a ∷ args) rules (m, adds, more) was simple =
    let each = and_parts (rule_of a).is_simple _ simple in
    let one = with_one_more old m a rules adds was each.0 in
    with_each m new args (rules ++ rule_of a ∷ []) more one each.1 ∙ ap app_with (append_assoc rules (rule_of a ∷ []) (map rule_of args))

-- what `clap` says of simple commands with no rule between options it says of this one
pub is_simple-options : is_simple (app_with options) ≡ true
unfolding options
is_simple-options = refl

pub is_free-options : is_simple_and_free (app_with options) ≡ true
unfolding options
is_free-options = refl
