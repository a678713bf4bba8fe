-- What is meant of the ends that a direction names.
use Rattle.std.proofs.Common.{None, Option, Some, inl, inr, ◌↔◌, ◌⊎◌}
use Rattle.packet_filter.specs.Meaning.{OfEnds}
use Rattle.packet_filter.specs.declared.expression.Direction.{Direction}
use Rattle.packet_filter.specs.declared.expression.Direction.TheVariants as direction

either : {P P' Q Q' : Type 0} → (P → P') → (Q → Q') → P ⊎ Q → P' ⊎ Q'
either f g (inl x) = inl (f x)
either f g (inr y) = inr (g y)

-- what is the same at each end is the same at those
pub same_ends : {A B : Type 0} (d : Option Direction) (s t : A) (s' t' : B) (P : A → Type 0) (Q : B → Type 0)
    → (P s ↔ Q s') → (P t ↔ Q t') → (OfEnds d s t P ↔ OfEnds d s' t' Q)
same_ends None s t s' t' P Q p q = (either p.0 q.0, either p.1 q.1)
same_ends (Some direction.Source) s t s' t' P Q p q = p
same_ends (Some direction.Destination) s t s' t' P Q p q = q
same_ends (Some direction.Either) s t s' t' P Q p q = (either p.0 q.0, either p.1 q.1)
same_ends (Some direction.Both) s t s' t' P Q p q = (λ e. (p.0 e.0, q.0 e.1), λ e. (p.1 e.0, q.1 e.1))
