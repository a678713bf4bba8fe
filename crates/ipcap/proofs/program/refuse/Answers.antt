use Rattle.std.proofs.Common.{ℕ, ◌≡◌, ◌∙◌, List, None, Option, Some, ap, length, min, refl, subst, take}
use Rattle.std.proofs.lemmas.List.{take_min}
use Rattle.std.specs.Borrow.{Bor}
use Rattle.std.specs.Prelude.{unwrap_or}
use Rattle.std.specs.declared.io.Error.{Error}
use Rattle.ipcap.specs.Arguments.{text_of}
use Rattle.ipcap.specs.Faults.{Says}
use Rattle.ipcap.proofs.program.refuse.Goals as goal

text_or : (name : Option (Bor (List ℕ))) (other : Bor (List ℕ)) → (unwrap_or name other).now ≡ unwrap_or (text_of name) other.now
text_or None other = refl
text_or (Some text) other = refl

shown : (name : Option (Bor (List ℕ))) (other text : Bor (List ℕ)) (bytes : List ℕ) (n : ℕ) → n ≡ min 327680 (length bytes) → bytes ≡ text.now → text ≡ unwrap_or name other → take n bytes ≡ take 327680 (unwrap_or (text_of name) other.now)
shown name other text bytes n len same is = ap (λ k. take k bytes) len ∙ (take_min 327680 bytes ∙ ap (take 327680) (same ∙ (ap (λ t. t.now) is ∙ text_or name other)))

pub returns-clause-says : goal.returns-clause-says
returns-clause-says g c = subst (λ what. Says g.E.Sink.contents g.E.Sink.has_failed (g.E.Sink.is_text Error) what (Some c.args.e) c.args.errors.now c.say.new.self) (shown c.args.name _ c.unwrap_or.result c.as_bytes-name.result.now c.min.result c.min.ensures c.as_bytes-name.ensures.value c.unwrap_or.ensures) c.say.ensures.says
