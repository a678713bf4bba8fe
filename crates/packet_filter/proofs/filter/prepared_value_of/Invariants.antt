use Rattle.packet_filter.specs.Program.{expression_of}
use Rattle.packet_filter.proofs.Runs.{IsRight}
use Rattle.packet_filter.proofs.filter.prepared_value_of.Given as goal

abbrev pub invariant-steps : goal.invariant-steps
invariant-steps l = record { right : IsRight l.packet l.len l.steps (expression_of l.steps) l.place }

abbrev pub decreases-steps : goal.decreases-steps
decreases-steps l = l.place
