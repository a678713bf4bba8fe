use Rattle.std.proofs.Common.{arith}
use Rattle.etherparse.proofs.HeaderChecksum.{ecn_set}
use Rattle.etherparse.proofs.net.ipv4_header.Ipv4Header.set_ecn.Goals as goal

pub returns-clause-keeps_checksum : goal.returns-clause-keeps_checksum
returns-clause-keeps_checksum c = (ecn_set _ _ _ (omega (arith, c.first_word.ensures)) (omega arith) (rw (c.first_word-before.ensures.number, c.first_word.ensures.number) at c.update_2bytes-self.ensures.updates)).0

pub returns-clause-in_place : goal.returns-clause-in_place
returns-clause-in_place c = (ecn_set _ _ _ (omega (arith, c.first_word.ensures)) (omega arith) (rw (c.first_word-before.ensures.number, c.first_word.ensures.number) at c.update_2bytes-self.ensures.updates)).1
