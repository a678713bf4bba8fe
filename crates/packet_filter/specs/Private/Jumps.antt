-- Where an expression goes on after each of its tests, so that no test is made whose answer is not
-- needed. A place is one more than the number of steps from there to the end; 0 is none, and the
-- answer is no.
use Rattle.std.specs.Prelude.{ℕ, ◌+◌, List, [], ◌∷◌, ◌++◌, None, Some, length, unwrap_or}
use Rattle.packet_filter.specs.Private.Quick.{quick_of_step}
use Rattle.packet_filter.specs.declared.expression.Operator.TheVariants.{And, Or}
use Rattle.packet_filter.specs.declared.filter.Step.{Step}
use Rattle.packet_filter.specs.declared.filter.Step.TheVariants as step
use Rattle.packet_filter.specs.declared.jumps.Decision.{Decision}
use Rattle.packet_filter.specs.declared.jumps.Jump.{Jump}
use Rattle.packet_filter.specs.declared.jumps.Operand.{Operand}

-- operands, the last of them first
abbrev pub Operands : Type 0
Operands = List Operand

-- the same, the last one last, as they are kept
abbrev pub in_order : Operands → List Operand
in_order [] = []
in_order (last ∷ operands) = in_order operands ++ last ∷ []

-- where the answer of the last operand leads, before the place that comes next
abbrev pub jump_by : Operands → ℕ → Jump
jump_by [] next = record { yes = next; no = next }
jump_by (last ∷ operands) next =
    record { yes = unwrap_or last.yes next; no = unwrap_or last.no next }

-- the operands but the last one
abbrev pub but_last : Operands → Operands
but_last [] = []
but_last (last ∷ operands) = operands

-- with the operands of a step, whose own answer leads on by this jump
abbrev pub with_operands : Step → Jump → Operands → Operands
with_operands (step.Test p) jump operands = operands
with_operands step.Not jump operands = record { yes = Some jump.no; no = Some jump.yes } ∷ operands
with_operands (step.Operator And) jump operands = record { yes = Some jump.yes; no = Some jump.no }
    ∷ record { yes = None; no = Some jump.no } ∷ operands
with_operands (step.Operator Or) jump operands = record { yes = Some jump.yes; no = Some jump.no }
    ∷ record { yes = Some jump.yes; no = None } ∷ operands

-- the operands that the last steps of an expression need
abbrev pub operands_of : List Step → Operands
operands_of [] = record { yes = None; no = Some 0 } ∷ []
operands_of (s ∷ steps) = with_operands s (jump_by (operands_of steps) (length steps + 1))
    (but_last (operands_of steps))

-- the jump of the step before these last steps
abbrev pub jump_before : List Step → Jump
jump_before steps = jump_by (operands_of steps) (length steps + 1)

-- what is asked at each step, and its jump, those of the last step first
abbrev pub decisions_of : List Step → List Decision
decisions_of [] = []
decisions_of (s ∷ steps) = decisions_of steps
    ++ record { quick = quick_of_step s; jump = jump_before steps } ∷ []
