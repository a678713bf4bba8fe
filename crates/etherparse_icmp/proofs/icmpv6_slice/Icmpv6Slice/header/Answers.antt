use Rattle.etherparse.proofs.Fronts.{read_once}
use Rattle.etherparse.specs.Reading.{IsTooShort}
use Rattle.etherparse.specs.declared.err.Layer.TheVariants as layer
use Rattle.etherparse_icmp.proofs.Icmpv6Layout.{tells_headers}
use Rattle.etherparse_icmp.proofs.Rests.{begins_with}
use Rattle.etherparse_icmp.specs.Icmpv6.{IsIcmpv6Layout}
use Rattle.etherparse_icmp.proofs.icmpv6_slice.Icmpv6Slice.header.Goals as goal

pub returns : goal.returns
returns c =
    let begins = begins_with IsIcmpv6Layout 8 _ _ c.header_of.ensures.layout in
    let once = read_once IsIcmpv6Layout (IsTooShort layer.Icmpv6 8) tells_headers _ in
    record { reads = begins; only = λ other o. once other _ o begins }
