use Rattle.std.proofs.Common.{◌∙◌, ap, Some}
use Rattle.clap.specs.declared.builder.action.ArgAction.TheVariants.{Count}
use Rattle.clap.specs.declared.builder.arg.Arg.{Arg}
use Rattle.clap.specs.Words.{Rule, rule_of}
use Rattle.ipcap.proofs.arguments.numbers.Goals as goal

pub returns : goal.returns
returns c = record {
  rule = ap rule_of c.help.ensures ∙ (ap rule_of c.action.ensures ∙ (ap (λ (a : Arg). rule_of (record a { action = Some Count })) c.short.ensures
      ∙ ap (λ (r : Rule). record r { short = Some 110; action = Some Count }) c.new.ensures.rule));
}
