-- VLAN tags (IEEE 802.1Q).
use Rattle.std.specs.Prelude.{ℕ, ◌≡◌, ◌-◌, ◌<◌, ◌==◌, ◌||◌, ◌⊎◌, Bool, false, IsFalse, IsTrue, List}
use Rattle.std.specs.Prelude.{[], ◌∷◌, ◌++◌, length, Option, None, Some}
use Rattle.std.specs.List.{concat}
use Rattle.etherparse.specs.Reading.{too_short_error}
use Rattle.etherparse.specs.declared.err.LenError.{LenError}
use Rattle.etherparse.specs.declared.err.Layer.TheVariants as layer
use Rattle.etherparse_link.specs.Bytes.{number_at}
use Rattle.packet.specs.declared.vlan.VlanSlice.{VlanSlice}
use Rattle.packet.specs.declared.vlan.VlanSlice.TheVariants.{DoubleVlan, SingleVlan}

-- the EtherTypes of tags (IEEE 802.1Q section 9.5): of a customer's VLAN, of a service's, and the
-- one that the outer of two tags had before that of a service existed
abbrev pub is_tag : Option ℕ → Bool
is_tag None = false
is_tag (Some number) = number == 0x8100 || number == 0x88a8 || number == 0x9100

-- Tags one after the other. The EtherType before each is that of a tag. Its four bytes are the tag
-- control information and the EtherType of what it tags (IEEE 802.1Q section 9.3).
abbrev pub AreTags : Option ℕ → List (List ℕ) → Option ℕ → Type 0
AreTags first [] last = last ≡ first
AreTags first (tag ∷ tags) last =
    IsTrue (is_tag first) × (length tag ≡ 4) × AreTags (Some (number_at 2 tag)) tags last

-- the bytes of each tag
abbrev pub tags_of : Option VlanSlice → List (List ℕ)
tags_of None = []
tags_of (Some (SingleVlan tag)) = tag.slice.now ∷ []
tags_of (Some (DoubleVlan outer inner)) = outer.slice.now ∷ inner.slice.now ∷ []

-- the bytes are these tags, and what follows them, of this EtherType
pub record HasTags (first : Option ℕ) (bytes : List ℕ) (vlan : Option VlanSlice)
    (ether_type : Option ℕ) (rest : List ℕ) : Type 0 where
  pub tags : AreTags first (tags_of vlan) ether_type
  pub whole : bytes ≡ concat (tags_of vlan) ++ rest

-- what follows is no tag, or a third one, which is another protocol
abbrev pub AreAllTags : Option VlanSlice → Option ℕ → Type 0
AreAllTags vlan ether_type = (length (tags_of vlan) ≡ 2) ⊎ IsFalse (is_tag ether_type)

-- the error of a tag at a place, of which there are fewer than 4 bytes
abbrev pub tag_error : ℕ → ℕ → LenError
tag_error place len =
    record (too_short_error layer.VlanHeader 4 len) { layer_start_offset = place }

-- the frame ends within the first or the second tag
pub record EndsInTag (frame_len : ℕ) (vlan : Option VlanSlice) (ether_type : Option ℕ)
    (rest : List ℕ) (e : LenError) : Type 0 where
  pub few : length (tags_of vlan) < 2
  pub tag : IsTrue (is_tag ether_type)
  pub short : length rest < 4
  pub error : e ≡ tag_error (frame_len - length rest) (length rest)

-- the tags end before what is tagged, or within a tag
abbrev pub EndsTags : ℕ → Option VlanSlice → Option ℕ → List ℕ → Option LenError → Type 0
EndsTags frame_len vlan ether_type rest None = AreAllTags vlan ether_type
EndsTags frame_len vlan ether_type rest (Some e) = EndsInTag frame_len vlan ether_type rest e
