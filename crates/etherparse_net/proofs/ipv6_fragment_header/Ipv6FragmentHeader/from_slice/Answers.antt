use Rattle.etherparse.proofs.Fronts.{begins_with_front, read_once}
use Rattle.etherparse_net.proofs.ExtensionHeaders.{tells_fragment}
use Rattle.etherparse_net.specs.Ipv6FragmentHeader.{IsFragmentLayout, RefusesFragment}
use Rattle.etherparse_net.proofs.ipv6_fragment_header.Ipv6FragmentHeader.from_slice.Goals as goal

pub returns : goal.returns
returns c =
    let begins = begins_with_front IsFragmentLayout 8 _ _ c.header_of.ensures.layout in
    let once = read_once IsFragmentLayout RefusesFragment tells_fragment _ in
    record { reads = begins; only = λ other o. once other _ o begins }
