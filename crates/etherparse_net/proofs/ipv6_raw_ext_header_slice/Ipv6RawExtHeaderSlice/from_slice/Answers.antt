use Rattle.std.proofs.Common.{arith}
use Rattle.etherparse_net.proofs.ExtensionHeaders.{raw_ext_viewed}
use Rattle.etherparse_net.proofs.ipv6_raw_ext_header_slice.Ipv6RawExtHeaderSlice.from_slice.Goals
    as goal

pub returns-clause-views : goal.returns-clause-views
returns-clause-views c =
    raw_ext_viewed c.args.slice.now _ (omega (arith, c.from.ensures)) (omega arith)
    (λ i. omega (arith, c.type_inv.slice i))
