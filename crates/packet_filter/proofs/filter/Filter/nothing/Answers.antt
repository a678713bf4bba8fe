use Rattle.std.proofs.Common.{refl}
use Rattle.packet_filter.specs.Program.{expression_of}
use Rattle.packet_filter.proofs.filter.Filter.nothing.Goals as goal

pub of_steps-requires : goal.of_steps-requires
unfolding expression_of
of_steps-requires c = record { computes = rw (c.push.ensures.items, c.new-steps.ensures) refl }
