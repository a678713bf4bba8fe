use Rattle.std.proofs.Common.{arith, refl}
use Rattle.etherparse_transport.proofs.Checksums.{even_pseudo_header}
use Rattle.etherparse_transport.proofs.tcp_header.TcpHeader.calc_checksum_ipv6_raw.Goals as goal

pub returns-in-Ok-clause-computed : goal.returns-in-Ok-clause-computed
returns-in-Ok-clause-computed c = rw c.header_len.ensures.value at
    (c.checksum_after.ensures.computed _ c.in-Ok.ensures.sum
    (even_pseudo_header c.args.source c.args.destination _ (grind arith) (grind arith) refl))
