use Rattle.std.proofs.Common.{◌≡◌, ◌∙◌, ap, None, Option, Some}
use Rattle.std.specs.Option.{IsSomeAnd}
use Rattle.clap.specs.Lexer.{usize_max}
use Rattle.clap.specs.Words.{Rule, rule_of}
use Rattle.clap.specs.declared.builder.action.ArgAction.TheVariants.{Append}
use Rattle.clap.specs.declared.builder.arg.Arg.{Arg}
use Rattle.clap.specs.declared.builder.range.ValueRange.{ValueRange}
use Rattle.ipcap.proofs.arguments.expression.Goals as goal

some_such : {X : Type 0} (o : Option X) (x : X) → IsSomeAnd o (λ y. y ≡ x) → o ≡ Some x
some_such None x none = absurd none
some_such (Some y) x is = ap Some is

pub returns : goal.returns
returns c =
    let any : ValueRange = record { start_inclusive = 0; end_inclusive = usize_max } in
    let many : c.num_args.result.num_vals ≡ Some any = some_such _ _ c.num_args.ensures.1 in
    record {
      rule = ap rule_of c.help.ensures ∙ (ap rule_of c.num_args.ensures.0 ∙ (ap (λ (n : Option ValueRange). rule_of (record c.action.result { num_vals = n })) many
          ∙ (ap (λ (a : Arg). rule_of (record a { num_vals = Some any })) c.action.ensures
          ∙ ap (λ (r : Rule). record r { action = Some Append; range = Some any }) c.new.ensures.rule)));
    }
