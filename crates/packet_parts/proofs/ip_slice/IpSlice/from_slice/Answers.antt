use Rattle.packet_parts.proofs.IpRefusals.{sliced_once}
use Rattle.packet_parts.proofs.ip_slice.IpSlice.from_slice.Goals as goal

pub returns-clause-only : goal.returns-clause-only
returns-clause-only c = λ other reads. sliced_once _ other _ reads c.whole_slice.ensures.reads
