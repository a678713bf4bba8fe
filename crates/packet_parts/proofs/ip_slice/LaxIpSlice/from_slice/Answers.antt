use Rattle.packet_parts.proofs.IpRefusals.{lax_sliced_once}
use Rattle.packet_parts.proofs.ip_slice.LaxIpSlice.from_slice.Goals as goal

pub returns-clause-only : goal.returns-clause-only
returns-clause-only c = λ other reads. lax_sliced_once _ other _ reads c.lax_slice.ensures.reads
