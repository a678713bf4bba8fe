-- Expressions in postfix form: each step takes its operands from a stack of expressions, and leaves
-- what it makes of them.
use Rattle.std.specs.Prelude.{◌≡◌, Option, Some, None, List, [], ◌∷◌}
use Rattle.packet_filter.specs.Meaning.{Expression, compound, negation, one}
use Rattle.packet_filter.specs.declared.expression.Primitive.TheVariants as primitive
use Rattle.packet_filter.specs.declared.filter.Step.{Step}
use Rattle.packet_filter.specs.declared.filter.Step.TheVariants as step

-- the stack after one step, if it has the operands
abbrev pub stepped : Step → List Expression → Option (List Expression)
stepped (step.Test p) es = Some (one p ∷ es)
stepped step.Not [] = None
stepped step.Not (e ∷ es) = Some (negation e ∷ es)
stepped (step.Operator o) [] = None
stepped (step.Operator o) (b ∷ []) = None
stepped (step.Operator o) (b ∷ a ∷ es) = Some (compound o a b ∷ es)

-- what the function makes of what is there
abbrev pub and_then : {A B : Type 0} → Option A → (A → Option B) → Option B
and_then None f = None
and_then (Some x) f = f x

-- the stack after all steps
abbrev pub built : List Step → List Expression → Option (List Expression)
built [] es = Some es
built (s ∷ steps) es = and_then (stepped s es) (built steps)

-- the expression on top; of an empty stack any, since the steps of a filter compute one
abbrev pub top_of : Option (List Expression) → Expression
top_of None = one primitive.Fragment
top_of (Some []) = one primitive.Fragment
top_of (Some (e ∷ es)) = e

-- the expression that a program computes
unfoldable pub expression_of : List Step → Expression
expression_of steps = top_of (built steps [])

-- the program computes this expression, and never lacks an operand
abbrev pub Computes : List Step → Expression → Type 0
Computes steps e = built steps [] ≡ Some (e ∷ [])
