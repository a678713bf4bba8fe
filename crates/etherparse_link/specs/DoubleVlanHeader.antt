-- Two VLAN tags, one after the other (IEEE 802.1Q section 9.3).
use Rattle.std.specs.Prelude.{ℕ, ◌≡◌, ◌≤◌, ◌⊎◌, List, Result, drop, length, take}
use Rattle.etherparse.specs.Reading.{IsTooShort}
use Rattle.etherparse.specs.declared.err.Layer.TheVariants as layer
use Rattle.etherparse_link.specs.Bytes.{number_at}
use Rattle.etherparse_link.specs.SingleVlanHeader.{IsSingleVlanLayout}
use Rattle.etherparse_link.specs.declared.double_vlan_header.DoubleVlanHeader.{DoubleVlanHeader}
use Rattle.etherparse_link.specs.declared.err.double_vlan.HeaderError.TheVariants as content
use Rattle.etherparse_link.specs.declared.err.double_vlan.HeaderSliceError as error
use Rattle.etherparse_link.specs.declared.err.double_vlan.HeaderSliceError.TheVariants as slice

-- the EtherTypes of tags: of a customer's VLAN and of a service's (IEEE 802.1Q section 9.5), and
-- the one that the outer of two tags had before that of a service existed
abbrev pub IsTagType : ℕ → Type 0
IsTagType ether_type = (ether_type ≡ 0x8100) ⊎ (ether_type ≡ 0x88a8) ⊎ (ether_type ≡ 0x9100)

-- the bytes of one tag, and then those of the other
pub record AreTwoTags (header : DoubleVlanHeader) (bytes : List ℕ) : Type 0 where
  pub outer : IsSingleVlanLayout header.outer (take 4 bytes)
  pub inner : IsSingleVlanLayout header.inner (drop 4 bytes)

-- the 8 bytes of two tags, where the EtherType of the first says that the second follows
pub record IsDoubleVlanLayout (header : DoubleVlanHeader) (bytes : List ℕ) : Type 0 where
  pub tags : AreTwoTags header bytes
  pub says : IsTagType header.outer.ether_type

-- the slice is long enough, and the EtherType of the first tag is that of no tag
pub record HasOtherEtherType (s : List ℕ) (ether_type : ℕ) : Type 0 where
  pub enough : 8 ≤ length s
  pub found : ether_type ≡ number_at 2 s
  pub other : ¬ IsTagType ether_type

-- Why the front of a slice is no header: it is shorter than two tags; or else what follows the
-- first is no tag.
abbrev pub RefusesDoubleVlan : List ℕ → error.HeaderSliceError → Type 0
RefusesDoubleVlan s (slice.Len e) = IsTooShort layer.VlanHeader 8 s e
RefusesDoubleVlan s (slice.Content (content.NonVlanEtherType ether_type)) =
    HasOtherEtherType s ether_type

-- the two tags and the bytes after them, or why there are none
abbrev pub DoubleVlanReading : Type 0
DoubleVlanReading = Result (DoubleVlanHeader × List ℕ) error.HeaderSliceError

-- the reason why a tag of this EtherType is not the outer one
abbrev pub non_vlan_ether_type : ℕ → error.HeaderSliceError
non_vlan_ether_type ether_type = slice.Content (content.NonVlanEtherType ether_type)
