use Rattle.std.proofs.Common.{◌≡◌, ◌∙◌, [], sym}
use Rattle.etherparse.proofs.Layouts.{written}
use Rattle.etherparse_link.proofs.SingleVlanLayout.{single_vlan_fields, spelled}
use Rattle.etherparse_link.proofs.single_vlan_header.SingleVlanHeader.to_bytes.Goals as goal

pub returns-clause-only : goal.returns-clause-only
returns-clause-only c = λ bytes l.
    let tci = c.tag_control_information in
    let h = c.args.self.now in
    let e : c.words.result ≡ written (single_vlan_fields tci.result h) [] = c.words.ensures.value in
    spelled tci.result h tci.ensures.pcp tci.ensures.drop_eligible_indicator tci.ensures.vlan_id
    bytes l ∙ sym e
