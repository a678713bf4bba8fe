use Rattle.std.proofs.Common.{arith}
use Rattle.etherparse_transport.proofs.TcpOptionBytes.{block_told}
use Rattle.etherparse_transport.proofs.tcp_options_iterator.block_at.Goals as goal

pub returns-clause-told : goal.returns-clause-told
returns-clause-told c =
    block_told c.args.s.now c.args.at _ _ (λ i. omega (arith, c.type_inv.s i)) c.requires
    c.number_at.ensures.value c.number_at-2.ensures.value
