use Rattle.packet_filter.specs.Values.{named_value_of}
use Rattle.packet_filter.proofs.values.named_value_of.Goals as goal

pub returns : goal.returns
unfolding named_value_of
returns c = record { value = cc }
