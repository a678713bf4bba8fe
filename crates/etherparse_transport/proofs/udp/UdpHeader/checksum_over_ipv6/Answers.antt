use Rattle.std.proofs.Common.{arith, refl}
use Rattle.etherparse_transport.proofs.Checksums.{even_pseudo_header}
use Rattle.etherparse_transport.proofs.UdpLayout.{right_ipv6}
use Rattle.etherparse_transport.proofs.udp.UdpHeader.checksum_over_ipv6.Goals as goal

pub returns-clause-computed : goal.returns-clause-computed
returns-clause-computed c = rw c.from-len.ensures at
    (c.checksum_after.ensures.computed _ c.ipv6_pseudo_header-sum.ensures.sum
    (even_pseudo_header c.args.source c.args.destination _ (grind arith) (grind arith) refl))

pub returns-clause-datagram : goal.returns-clause-datagram
returns-clause-datagram c = λ len bytes l.
    right_ipv6 _ _ _ c.args.self.now _ bytes len (returns-clause-computed c) l c.checksum_after.ensures.there
