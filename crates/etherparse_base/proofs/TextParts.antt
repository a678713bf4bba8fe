-- Texts that are written in parts.
use Rattle.std.proofs.Common.{List, ℕ, append_assoc, ◌++◌}
use Rattle.std.proofs.lemmas.Grind.{put_three}
use Rattle.std.specs.Fmt.{HasWritten}
use Rattle.std.specs.declared.fmt.Formatter.{Formatter}

-- three parts, one after the other
pub three_written : {W : Type 0} (took : W → List ℕ → W → Type 0) (f g h i : Formatter W) (a b c : List ℕ)
    → HasWritten took f a g → HasWritten took g b h → HasWritten took h c i → HasWritten took f (a ++ b ++ c) i
three_written took f g h i a b c first second third = put_three took f g h i a b c (a ++ b ++ c) first second third (simp append_assoc)
