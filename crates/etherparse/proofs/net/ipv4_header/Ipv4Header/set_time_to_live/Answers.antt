use Rattle.std.proofs.Common.{arith}
use Rattle.etherparse.proofs.HeaderChecksum.{time_to_live_set}
use Rattle.etherparse.proofs.net.ipv4_header.Ipv4Header.set_time_to_live.Goals as goal

pub returns-clause-keeps_checksum : goal.returns-clause-keeps_checksum
returns-clause-keeps_checksum c = (time_to_live_set _ _ _ (omega arith) (omega arith) (rw c.from-protocol.ensures at c.update_2bytes-self.ensures.updates)).0

pub returns-clause-in_place : goal.returns-clause-in_place
returns-clause-in_place c = (time_to_live_set _ _ _ (omega arith) (omega arith) (rw c.from-protocol.ensures at c.update_2bytes-self.ensures.updates)).1
