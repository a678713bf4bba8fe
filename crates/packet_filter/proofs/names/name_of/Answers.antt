use Rattle.packet_filter.specs.Names.{name_of}
use Rattle.packet_filter.proofs.names.name_of.Goals as goal

pub returns : goal.returns
unfolding name_of
returns c = record { value = cc }
