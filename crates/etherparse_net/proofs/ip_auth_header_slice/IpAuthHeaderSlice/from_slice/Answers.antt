use Rattle.std.proofs.Common.{arith}
use Rattle.etherparse_net.proofs.ExtensionHeaders.{auth_viewed}
use Rattle.etherparse_net.proofs.ip_auth_header_slice.IpAuthHeaderSlice.from_slice.Goals as goal

pub returns-clause-views : goal.returns-clause-views
returns-clause-views c =
    auth_viewed c.args.slice.now _ (omega (arith, c.from.ensures)) (omega arith) (omega arith)
    (λ i. omega (arith, c.type_inv.slice i))
