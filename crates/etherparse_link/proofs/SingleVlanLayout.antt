-- The layout of a VLAN tag: bytes have one header, and a header has one list of bytes.
use Rattle.std.proofs.Common.{ℕ, ◌≡◌, ◌==◌, ◌/◌, ◌%◌, ◌^◌, ◌<◌, List, [], ◌∷◌, length, ap, ◌∙◌}
use Rattle.std.proofs.Common.{arith, rules, drop_of_length-le}
use Rattle.std.specs.List.{AllByRecursion}
use Rattle.std.proofs.lemmas.Grind.{common_steps}
use Rattle.etherparse.proofs.Fronts.{TellsHeaders, fixed_tells}
use Rattle.etherparse.proofs.Layouts.{Field, Fits, length-written, read_back, told, u16, written}
use Rattle.etherparse.specs.Bytes.{IsBytes}
use Rattle.etherparse.specs.declared.err.Layer.TheVariants as layer
use Rattle.etherparse_link.specs.Bytes.{number_at}
use Rattle.etherparse_link.specs.SingleVlanHeader.{IsSingleVlanLayout, RefusesSingleVlan}
use Rattle.etherparse_link.specs.SingleVlanHeader.{drop_eligible_indicator_of}
use Rattle.etherparse_link.specs.SingleVlanHeader.{priority_code_point_of, vlan_identifier_of}
use Rattle.etherparse_link.specs.declared.single_vlan_header.SingleVlanHeader.{SingleVlanHeader}

pub tells_headers : TellsHeaders IsSingleVlanLayout RefusesSingleVlan
tells_headers = fixed_tells IsSingleVlanLayout layer.VlanHeader 4 (λ g h p k l. search rules)
    (λ h p l. l.len)

-- 4 bytes are in the layout of a header
pub header_at : (p : List ℕ) → length p ≡ 4 → IsBytes p
    → (h : SingleVlanHeader) × IsSingleVlanLayout h p
header_at p e bytes =
    let tci = number_at 0 p in
    let header : SingleVlanHeader = record {
      pcp = priority_code_point_of tci;
      drop_eligible_indicator = drop_eligible_indicator_of tci;
      vlan_id = vlan_identifier_of tci;
      ether_type = number_at 2 p;
    } in
    (header, search rules)

-- the tag control information is told by its three parts
bit_told : (a b : ℕ) → a < 2 → b < 2 → (a == 1) ≡ (b == 1) → a ≡ b
bit_told a b x y e = grind (arith, common_steps)

pub told_by_parts : (a b : ℕ) → priority_code_point_of a ≡ priority_code_point_of b
    → drop_eligible_indicator_of a ≡ drop_eligible_indicator_of b
    → vlan_identifier_of a ≡ vlan_identifier_of b → a ≡ b
told_by_parts a b p d v =
    let bit = bit_told (a / 2 ^ 12 % 2) (b / 2 ^ 12 % 2) (omega arith) (omega arith) d in
    omega (arith, p, bit, v)

abbrev pub single_vlan_fields : ℕ → SingleVlanHeader → List Field
single_vlan_fields tci h = u16 tci ∷ u16 h.ether_type ∷ []

module _ (tci : ℕ) (h : SingleVlanHeader) (pcp : priority_code_point_of tci ≡ h.pcp)
    (dei : drop_eligible_indicator_of tci ≡ h.drop_eligible_indicator)
    (id : vlan_identifier_of tci ≡ h.vlan_id) (p : List ℕ) where
  pub spelled : IsSingleVlanLayout h p → p ≡ written (single_vlan_fields tci h) []
  spelled l =
      let dei_told : drop_eligible_indicator_of (number_at 0 p) ≡ drop_eligible_indicator_of tci =
      rw dei l.drop_eligible_indicator in
      let same : number_at 0 p ≡ tci =
      told_by_parts (number_at 0 p) tci (rw pcp l.pcp) dei_told (rw id l.vlan_id) in
      let nothing_after = drop_of_length-le p {i = 4} (omega (arith, l.len)) in
      told p 0 (single_vlan_fields tci h) [] l.are_bytes (omega (arith, l.len))
      (search (rules, l, same, nothing_after))

  pub spells : AllByRecursion Fits (single_vlan_fields tci h) → IsBytes p
      → p ≡ written (single_vlan_fields tci h) [] → IsSingleVlanLayout h p
  spells fit are_bytes e =
      let fields = read_back p 0 (single_vlan_fields tci h) [] fit e in
      let len = ap length e ∙ length-written (single_vlan_fields tci h) [] fit in
      search (rules, fields, len, pcp, dei, id)
