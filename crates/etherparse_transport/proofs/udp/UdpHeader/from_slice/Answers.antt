use Rattle.etherparse.proofs.Fronts.{begins_with_front, fixed_tells, read_once}
use Rattle.etherparse.specs.Reading.{IsTooShort}
use Rattle.etherparse.specs.declared.err.Layer.TheVariants as layer
use Rattle.etherparse_transport.proofs.UdpLayout.{same_header}
use Rattle.etherparse_transport.specs.Udp.{IsUdpLayout}
use Rattle.etherparse_transport.proofs.udp.UdpHeader.from_slice.Goals as goal

pub returns-clause-only : goal.returns-clause-only
returns-clause-only c = λ other o. read_once IsUdpLayout (IsTooShort layer.UdpHeader 8) (fixed_tells IsUdpLayout layer.UdpHeader 8 same_header (λ h p l. l.len)) _ other _ o
    (begins_with_front IsUdpLayout 8 _ _ c.header_of.ensures.layout)
