use Rattle.std.proofs.Common.{refl, take, take-add}
use Rattle.etherparse.proofs.Fronts.{begins_with_front, read_once}
use Rattle.etherparse_link.proofs.DoubleVlanLayout.{tells_headers, two_tags}
use Rattle.etherparse_link.specs.DoubleVlanHeader.{AreTwoTags, IsDoubleVlanLayout}
use Rattle.etherparse_link.specs.DoubleVlanHeader.{RefusesDoubleVlan}
use Rattle.etherparse_link.specs.declared.double_vlan_header.DoubleVlanHeader.{DoubleVlanHeader}
use Rattle.etherparse_link.proofs.double_vlan_header.DoubleVlanHeader.from_slice.Goals as goal

pub returns : goal.returns
returns c =
    let s = c.args.slice.now in
    let outer = c.header_of-outer in
    let inner = c.header_of-inner in
    let h : DoubleVlanHeader = record { outer = outer.result; inner = inner.result } in
    let tags : AreTwoTags h (take 8 s) =
    rw (take-add 4 4 s) (two_tags h _ _ outer.ensures.layout inner.ensures.layout) in
    let says = c.if-not-is_tag_type.ensures.value.0 refl in
    let begins = begins_with_front IsDoubleVlanLayout 8 h s (record { tags = tags; says = says }) in
    let once = read_once IsDoubleVlanLayout RefusesDoubleVlan tells_headers s in
    record { reads = begins; only = λ other o. once other _ o begins }
