use Rattle.std.proofs.Common.{◌≡◌, ◌∙◌, ap, ap₂, Option, Some}
use Rattle.clap.specs.Words.{Rule, rule_of}
use Rattle.clap.specs.declared.builder.value_parser.ValueParser.{ValueParser}
use Rattle.clap.specs.declared.builder.value_parser.ValueParser.TheVariants.{Unsigned}
use Rattle.ipcap.proofs.arguments.limit.Goals as goal

pub returns : goal.returns
returns c =
    let made : c.range.result ≡ Unsigned 1 18446744073709551615 = rw c.value_parser.ensures at c.range.ensures in
    let given = c.value_parser-2.ensures.given in
    record {
      rule = ap rule_of c.value_parser-2.ensures.others
          ∙ ap₂ (λ (r : Rule) (p : Option ValueParser). record r { parser = p }) c.with_value.ensures.rule (given.1 ∙ ap Some (given.2 ∙ made));
    }
