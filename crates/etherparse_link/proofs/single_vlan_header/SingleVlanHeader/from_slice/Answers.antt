use Rattle.etherparse.proofs.Fronts.{read_once}
use Rattle.etherparse_link.proofs.SingleVlanLayout.{tells_headers}
use Rattle.etherparse_link.proofs.Headers.{front_read}
use Rattle.etherparse_link.specs.SingleVlanHeader.{IsSingleVlanLayout, RefusesSingleVlan}
use Rattle.etherparse_link.proofs.single_vlan_header.SingleVlanHeader.from_slice.Goals as goal

pub returns : goal.returns
returns c =
    let layout = c.to_header-header.ensures.layout in
    let reads = front_read IsSingleVlanLayout RefusesSingleVlan tells_headers 4 _ _ _
    c.in_ok-from_slice.ensures.views layout layout.len in
    let once = read_once IsSingleVlanLayout RefusesSingleVlan tells_headers _ in
    record { reads = reads; only = λ other o. once other _ o reads }
