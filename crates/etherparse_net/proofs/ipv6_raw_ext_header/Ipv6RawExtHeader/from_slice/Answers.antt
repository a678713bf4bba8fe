use Rattle.std.proofs.Common.{length, refl}
use Rattle.etherparse.proofs.Fronts.{begins_at, read_once}
use Rattle.etherparse_net.proofs.ExtensionHeaders.{tells_raw_ext}
use Rattle.etherparse_net.specs.Ipv6RawExtHeader.{IsRawExtLayout, RefusesRawExt}
use Rattle.etherparse_net.proofs.ipv6_raw_ext_header.Ipv6RawExtHeader.from_slice.Goals as goal

pub returns : goal.returns
returns c =
    let view = c.in_ok-view.view.slice.now in
    let begins = begins_at IsRawExtLayout (length view) c.args.slice.now view _ c.to_header.result
    c.in_ok-view.ensures.views.whole c.to_header.ensures.layout refl in
    let once = read_once IsRawExtLayout RefusesRawExt tells_raw_ext _ in
    record { reads = begins; only = λ other o. once other _ o begins }
