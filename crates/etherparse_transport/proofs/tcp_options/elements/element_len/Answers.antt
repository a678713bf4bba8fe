use Rattle.std.proofs.Common.{◌∷◌, ap, arith, length}
use Rattle.etherparse_transport.proofs.TcpOptionBytes.{length-edges}
use Rattle.etherparse_transport.specs.TcpOptions.{blocks_of, option_bytes}
use Rattle.etherparse_transport.proofs.tcp_options.elements.element_len.Goals as goal

pub returns-in-SelectiveAcknowledgement-clause-value :
    goal.returns-in-SelectiveAcknowledgement-clause-value
returns-in-SelectiveAcknowledgement-clause-value c =
    let sack = c.in-SelectiveAcknowledgement in
    omega (
      arith,
      c.from.ensures,
      c.blocks_len.ensures.value,
      ap (λ x. length (option_bytes x)) sack.is,
      length-edges
          (sack.field-0 ∷ blocks_of sack.others),
    )
