use Rattle.std.proofs.Common.{inl}
use Rattle.etherparse.proofs.HeaderChecksum.{right_checksum}
use Rattle.etherparse.proofs.net.ipv4_header.Ipv4Header.set_checksum.Goals as goal

pub returns-clause-computed : goal.returns-clause-computed
returns-clause-computed c = λ bytes layout. c.calc_header_checksum-self.ensures.whatever_is_stored _ bytes layout

pub returns-clause-all_ones : goal.returns-clause-all_ones
returns-clause-all_ones c = λ bytes layout. (right_checksum _ 0 bytes layout).1 (inl (returns-clause-computed c bytes layout))
