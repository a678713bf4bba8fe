use Rattle.packet_reassembly.proofs.Arrivals.{one_held}
use Rattle.packet_reassembly.proofs.reassemble.one_law.Goals as goal

pub returns : goal.returns
returns c = record { one = one_held }
