use Rattle.std.proofs.Common.{arith}
use Rattle.etherparse.proofs.Fronts.{viewed_once}
use Rattle.etherparse_net.proofs.ExtensionHeaders.{fragment_viewed, front_is_bytes, front_len}
use Rattle.etherparse_net.proofs.ExtensionHeaders.{tells_fragment}
use Rattle.etherparse_net.specs.Ipv6FragmentHeader.{IsFragmentLayout, RefusesFragment}
use Rattle.etherparse_net.proofs.ipv6_fragment_header_slice.Ipv6FragmentHeaderSlice.from_slice.Goals
    as goal

pub invariant_of-result : goal.invariant_of-result
invariant_of-result c = record {
  len = front_len c.args.slice.now 8 (omega arith);
  are_bytes = front_is_bytes c.args.slice.now 8 (λ i. omega (arith, c.type_inv.slice i));
}

pub returns-clause-views : goal.returns-clause-views
returns-clause-views c =
    fragment_viewed c.args.slice.now (omega arith) (λ i. omega (arith, c.type_inv.slice i))

pub returns-clause-only : goal.returns-clause-only
returns-clause-only c =
    λ other o. viewed_once IsFragmentLayout RefusesFragment tells_fragment _ other _ o
    (fragment_viewed c.args.slice.now (omega arith) (λ i. omega (arith, c.type_inv.slice i)))
