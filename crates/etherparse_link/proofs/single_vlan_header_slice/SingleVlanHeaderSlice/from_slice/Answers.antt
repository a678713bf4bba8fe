use Rattle.std.proofs.Common.{arith}
use Rattle.etherparse.proofs.Fronts.{viewed_once}
use Rattle.etherparse_link.proofs.SingleVlanLayout.{header_at, tells_headers}
use Rattle.etherparse_link.proofs.Headers.{front_viewed}
use Rattle.etherparse_link.specs.SingleVlanHeader.{IsSingleVlanLayout, RefusesSingleVlan}
use Rattle.etherparse_link.proofs.single_vlan_header_slice.SingleVlanHeaderSlice.from_slice.Goals
    as goal

pub returns : goal.returns
returns c =
    let views = front_viewed IsSingleVlanLayout RefusesSingleVlan tells_headers 4 _ header_at
    c.if-slice-lt-LEN.false (λ i. omega (arith, c.type_inv.slice i)) in
    record {
      views = views;
      only = λ other o. viewed_once IsSingleVlanLayout RefusesSingleVlan
          tells_headers _ other _ o views;
    }
