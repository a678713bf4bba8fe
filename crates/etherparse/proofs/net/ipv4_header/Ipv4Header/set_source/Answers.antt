use Rattle.std.proofs.Common.{arith}
use Rattle.etherparse.proofs.HeaderChecksum.{source_set}
use Rattle.etherparse.proofs.net.ipv4_header.Ipv4Header.set_source.Goals as goal

pub returns-clause-keeps_checksum : goal.returns-clause-keeps_checksum
returns-clause-keeps_checksum c = (source_set _ _ _ (omega arith) c.are_bytes.ensures (omega arith) c.update_4bytes-self.ensures.updates).0

pub returns-clause-in_place : goal.returns-clause-in_place
returns-clause-in_place c = (source_set _ _ _ (omega arith) c.are_bytes.ensures (omega arith) c.update_4bytes-self.ensures.updates).1
