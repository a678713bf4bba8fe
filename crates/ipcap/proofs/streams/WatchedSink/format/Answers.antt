use Rattle.std.proofs.Common.{ℕ, ◌≡◌, List, [], ◌++◌, Option, Some, None, IfSome, ap, ◌∙◌}
use Rattle.std.proofs.lemmas.Fmt.{contents_after_writes}
use Rattle.std.specs.Fmt.{WritesText}
use Rattle.ipcap.proofs.streams.WatchedSink.format.Goals as goal

-- an empty text is then what was written to it
text_of : {W : Type 0} (bytes : W → List ℕ) (o : Option (List ℕ)) (w v : W) → bytes w ≡ [] → WritesText (λ s text t. bytes t ≡ bytes s ++ text) w o v → IfSome o (λ text. bytes v ≡ text)
text_of bytes None w v empty wrote = tt
text_of bytes (Some text) w v empty wrote = contents_after_writes (λ s text t. bytes t ≡ bytes s ++ text) bytes (λ s text t e. e) w text v wrote ∙ ap (λ x. x ++ text) empty

pub returns-in-Ok-clause-text : goal.returns-in-Ok-clause-text
returns-in-Ok-clause-text g c = text_of (λ s. s.bytes) (g.D.Display.output c.args.text) c.args.line.now c.write.new.self c.requires.empty c.in-Ok.ensures.writes
