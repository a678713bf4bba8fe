use Rattle.std.proofs.Common.{◌∷◌, arith}
use Rattle.etherparse_transport.proofs.TcpOptionBytes.{length-edges}
use Rattle.etherparse_transport.specs.TcpOptions.{blocks_of}
use Rattle.etherparse_transport.proofs.tcp_options.elements.append.Goals as goal

pub append_blocks-requires : goal.append_blocks-requires
append_blocks-requires c =
    let sack = c.in-SelectiveAcknowledgement in
    omega (arith, rw sack.is at c.requires, length-edges (sack.first ∷ blocks_of sack.others))
