use Rattle.std.proofs.Common.{arith}
use Rattle.etherparse.proofs.HeaderChecksum.{destination_set}
use Rattle.etherparse.proofs.net.ipv4_header.Ipv4Header.set_destination.Goals as goal

pub returns-clause-keeps_checksum : goal.returns-clause-keeps_checksum
returns-clause-keeps_checksum c = (destination_set _ _ _ (omega arith) c.are_bytes.ensures (omega arith) c.update_4bytes-self.ensures.updates).0

pub returns-clause-in_place : goal.returns-clause-in_place
returns-clause-in_place c = (destination_set _ _ _ (omega arith) c.are_bytes.ensures (omega arith) c.update_4bytes-self.ensures.updates).1
