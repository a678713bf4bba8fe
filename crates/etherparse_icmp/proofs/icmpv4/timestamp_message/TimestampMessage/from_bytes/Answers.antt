use Rattle.std.proofs.Common.{arith}
use Rattle.std.proofs.lemmas.Grind.{common_steps}
use Rattle.etherparse_icmp.proofs.icmpv4.timestamp_message.TimestampMessage.from_bytes.Goals as goal

pub returns : goal.returns
returns c = grind (arith, common_steps)
