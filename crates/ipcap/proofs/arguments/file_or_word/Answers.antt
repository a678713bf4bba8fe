use Rattle.std.proofs.Common.{◌≡◌, ◌∙◌, List, None, Option, Some, arith, false, inr, refl, sym, true, ℕ, Bor}
use Rattle.std.specs.Option.{is_some}
use Rattle.ipcap.specs.Arguments.{BeginsExpression, NamesInput, text_of}
use Rattle.ipcap.proofs.arguments.file_or_word.Goals as goal

true_is : ¬ (true ≡ false)
true_is e = grind arith

-- no file is named, and an expression can begin with the first word
begins : (named first : Option (Bor (List ℕ))) (word : Bor (List ℕ)) (bytes : List ℕ) → is_some named ≡ false → first ≡ Some word → bytes ≡ word.now → BeginsExpression bytes
    → NamesInput (text_of named) (text_of first) None (text_of first)
begins None first word bytes none is same can = rw is (inr (rw same at can, refl, refl))
begins (Some name) first word bytes none is same can = absurd (true_is none)

pub returns-in-Some-2 : goal.returns-in-Some-2
returns-in-Some-2 c = record {
  names = begins c.args.named c.args.first c.in-Some.word c.as_bytes.result.now (sym c.is_some.ensures ∙ c.if-is_some.false) c.in-Some.is c.as_bytes.ensures.value (c.names_file.ensures.no c.if-names_file.false);
}
