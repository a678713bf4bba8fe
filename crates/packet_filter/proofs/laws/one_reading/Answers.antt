use Rattle.packet_filter.proofs.Fronts.{one_text}
use Rattle.packet_filter.proofs.laws.one_reading.Goals as goal

pub returns : goal.returns
returns c = record { only = one_text }
