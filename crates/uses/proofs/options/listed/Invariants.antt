use Rattle.std.proofs.Common.{ℕ, ◌+◌, ◌≤◌, ◌++◌, List, length, map}
use Rattle.uses.specs.Options.{AreOptions}
use Rattle.uses.proofs.options.listed.Given as goal

-- whatever options follow, they come after those in the list
abbrev pub invariant-options : goal.invariant-options
invariant-options l = record {
  room : length l.parts.items + length l.rest ≤ length l.fn.options;
  so_far : (more : List (List ℕ)) (end : List ℕ) → AreOptions l.rest more end
      → AreOptions l.fn.options (map (λ part. part.now) l.parts.items ++ more) end;
}

abbrev pub decreases-options : goal.decreases-options
decreases-options l = length l.rest
