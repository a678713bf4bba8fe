-- What follows the EtherType of a VLAN tag (IEEE 802.1Q sections 9.3 and 9.6).
use Rattle.std.specs.Prelude.{ℕ, ◌≡◌, ◌==◌, ◌/◌, ◌%◌, ◌^◌, Bool, List, length, Result}
use Rattle.etherparse.specs.Bytes.{IsBytes}
use Rattle.etherparse.specs.Reading.{IsTooShort}
use Rattle.etherparse.specs.declared.err.LenError.{LenError}
use Rattle.etherparse.specs.declared.err.Layer.TheVariants as layer
use Rattle.etherparse_link.specs.Bytes.{number_at}
use Rattle.etherparse_link.specs.declared.single_vlan_header.SingleVlanHeader.{SingleVlanHeader}

-- the parts of the tag control information, 16 bits: the priority code point in the upper 3, the
-- drop eligible indicator in the next, and the VLAN identifier in the lower 12
abbrev pub priority_code_point_of : ℕ → ℕ
priority_code_point_of tci = tci / 2 ^ 13

abbrev pub drop_eligible_indicator_of : ℕ → Bool
drop_eligible_indicator_of tci = tci / 2 ^ 12 % 2 == 1

abbrev pub vlan_identifier_of : ℕ → ℕ
vlan_identifier_of tci = tci % 2 ^ 12

-- the 4 bytes: the tag control information, and the EtherType of what is tagged
pub record IsSingleVlanLayout (header : SingleVlanHeader) (bytes : List ℕ) : Type 0 where
  pub len : length bytes ≡ 4
  pub are_bytes : IsBytes bytes
  pub pcp : priority_code_point_of (number_at 0 bytes) ≡ header.pcp
  pub drop_eligible_indicator :
      drop_eligible_indicator_of (number_at 0 bytes) ≡ header.drop_eligible_indicator
  pub vlan_id : vlan_identifier_of (number_at 0 bytes) ≡ header.vlan_id
  pub ether_type : number_at 2 bytes ≡ header.ether_type

-- why the front of a slice is no such header: it is shorter than one
abbrev pub RefusesSingleVlan : List ℕ → LenError → Type 0
RefusesSingleVlan s e = IsTooShort layer.VlanHeader 4 s e

-- a header and the bytes after it, or why there is no header
abbrev pub SingleVlanReading : Type 0
SingleVlanReading = Result (SingleVlanHeader × List ℕ) LenError
