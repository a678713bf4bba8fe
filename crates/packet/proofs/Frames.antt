-- A frame is read in one way.
use Rattle.std.proofs.Common.{ℕ, ◌≡◌, ◌-◌, ◌<◌, ◌≤◌, ◌⊎◌, IsFalse, IsTrue, List, [], ◌∷◌, ◌++◌, length, Ok, Err, Option, Result, Some, None, ap, ◌∙◌, arith, append_assoc, inl, inr, length-append, option_map, refl, sym, subst}
use Rattle.std.specs.List.{concat}
use Rattle.std.specs.Result.{result_map_both}
use Rattle.std.proofs.lemmas.List.{append_cancel_left}
use Rattle.etherparse.proofs.Parts.{same_front}
use Rattle.packet_parts.proofs.IpRefusals.{lax_once, no_parts_refused, parts_not_refused, refused_once}
use Rattle.packet_parts.specs.IpSlice.{ip_parts}
use Rattle.packet_parts.specs.declared.ip_slice.IpSlice.{IpSlice}
use Rattle.packet.proofs.Transports.{transport_once}
use Rattle.etherparse_link.specs.Bytes.{number_at}
use Rattle.packet.specs.Error.{ip_error_moved}
use Rattle.packet.specs.Link.{BeginsWithLink, LacksLink, ether_type_in, link_in, link_parts}
use Rattle.packet.specs.Network.{HasNetwork, first_error}
use Rattle.packet.specs.SlicedPacket.{CarriesIp, CarriesOther, HasLayers, HasLayersAfter, IsFrame, IsLaxReadingAfter, IsLaxReadingOf, IsReadingAfter, IsReadingOf, ReadsFrame, ReadsLaxFrame, ReadsWhole, StopsInTag, carries_ip, lax_layers, layers_of, whole_layers, whole_of}
use Rattle.packet.specs.Transport.{transport_parts}
use Rattle.packet.specs.Vlan.{AreTags, is_tag, tag_error, tags_of}
use Rattle.packet.specs.declared.error.SliceError.{SliceError}
use Rattle.packet.specs.declared.error.SliceError.TheVariants as error
use Rattle.packet.specs.declared.lax_sliced_packet.LaxSlicedPacket.{LaxSlicedPacket}
use Rattle.packet.specs.declared.link.LinkError.{LinkError}
use Rattle.packet.specs.declared.link.LinkSlice.{LinkSlice}
use Rattle.packet.specs.declared.link.LinkType.{LinkType}
use Rattle.packet.specs.declared.sliced_packet.SlicedPacket.{SlicedPacket}
use Rattle.packet.specs.declared.transport.TransportSlice.{TransportSlice}
use Rattle.packet.specs.declared.vlan.VlanSlice.{VlanSlice}
use Rattle.packet.specs.declared.vlan.VlanSlice.TheVariants.{DoubleVlan, SingleVlan}

-- a frame begins with one link header
link_once : (link_type : LinkType) (frame : List ℕ) (l m : Option LinkSlice) (e f : Option ℕ) (x y : List ℕ)
    → BeginsWithLink link_type frame l e x → BeginsWithLink link_type frame m f y → (option_map link_parts l ≡ option_map link_parts m) × (e ≡ f) × (x ≡ y)
link_once link_type frame l m e f x y p q =
    let front = same_front p.front q.front x y (p.len ∙ sym q.len) (sym p.whole ∙ q.whole) in (
      p.header ∙ ap (link_in link_type frame) front ∙ sym q.header,
      p.next ∙ ap (ether_type_in link_type frame) front ∙ sym q.next,
      append_cancel_left q.front x y (ap (λ z. z ++ x) (sym front) ∙ sym p.whole ∙ q.whole),
    )

-- no tag of at most n follows: there are as many, what follows is none, or it is incomplete
abbrev AreLast : ℕ → List (List ℕ) → Option ℕ → List ℕ → Type 0
AreLast n tags last rest = (length tags ≡ n) ⊎ IsFalse (is_tag last) ⊎ (length rest < 4)

no_more : (n : ℕ) (first last : Option ℕ) (tag : List ℕ) (tags : List (List ℕ)) (bytes x y : List ℕ) → AreTags first (tag ∷ tags) last → bytes ≡ concat (tag ∷ tags) ++ y
    → bytes ≡ x → 0 < n → AreLast n [] first x → ⊥
no_more n first last tag tags bytes x y t e f some (inl full) = omega (arith, full, some)
no_more n first last tag tags bytes x y t e f some (inr (inl other)) = let is = t.0 in cc
no_more n first last tag tags bytes x y t e f some (inr (inr short)) = omega (arith, short, t.1, ap length e, ap length f, length-append {A = ℕ})

one_less : (n : ℕ) (tag : List ℕ) (tags : List (List ℕ)) (last : Option ℕ) (x : List ℕ) → length (tag ∷ tags) ≤ n → AreLast n (tag ∷ tags) last x → AreLast (n - 1) tags last x
one_less n tag tags last x within (inl full) = inl (omega (arith, full))
one_less n tag tags last x within (inr other) = inr other

-- bytes are one list of tags and one rest
tags_once : (n : ℕ) (ts us : List (List ℕ)) (first d e : Option ℕ) (bytes x y : List ℕ) → length ts ≤ n → length us ≤ n → AreTags first ts d → AreTags first us e
    → bytes ≡ concat ts ++ x → bytes ≡ concat us ++ y → AreLast n ts d x → AreLast n us e y → (ts ≡ us) × (d ≡ e) × (x ≡ y)
tags_once n [] [] first d e bytes x y within within' t u p q last last' = (refl, t ∙ sym u, sym p ∙ q)
tags_once n [] (u ∷ us) first d e bytes x y within within' t u' p q last last' = absurd (no_more n first e u us bytes x y u' q p (omega (arith, within')) (subst (λ z. AreLast n [] z x) t last))
tags_once n (t ∷ ts) [] first d e bytes x y within within' t' u p q last last' = absurd (no_more n first d t ts bytes y x t' p q (omega (arith, within)) (subst (λ z. AreLast n [] z y) u last'))
tags_once n (t ∷ ts) (u ∷ us) first d e bytes x y within within' t' u' p q last last' =
    let whole : t ++ (concat ts ++ x) ≡ u ++ (concat us ++ y) = sym (append_assoc t (concat ts) x) ∙ sym p ∙ q ∙ append_assoc u (concat us) y in
    let tag = same_front t u (concat ts ++ x) (concat us ++ y) (t'.1 ∙ sym u'.1) whole in
    let after : concat ts ++ x ≡ concat us ++ y = append_cancel_left u _ _ (ap (λ z. z ++ (concat ts ++ x)) (sym tag) ∙ whole) in
    let rest = tags_once (n - 1) ts us (Some (number_at 2 u)) d e (concat us ++ y) x y (omega (arith, within)) (omega (arith, within')) (subst (λ z. AreTags (Some (number_at 2 z)) ts d) tag t'.2) u'.2
    (sym after) refl (one_less n t ts d x within last) (one_less n u us e y within' last') in
    (cc, rest.1, rest.2)

-- a packet and its transport header are read in one way
network_once : (place : ℕ) (s : List ℕ) (a b : Option IpSlice) (t u : Option TransportSlice) (i j : Option SliceError) → HasNetwork place s a t i → HasNetwork place s b u j
    → (option_map ip_parts a ≡ option_map ip_parts b) × (option_map transport_parts t ≡ option_map transport_parts u) × (i ≡ j)
network_once place s None None t u i j p q =
    let e = refused_once s p.e q.e (no_parts_refused s p.e p.lacks) (no_parts_refused s q.e q.lacks) in
    (refl, ap (option_map transport_parts) (p.no_transport ∙ sym q.no_transport), p.stops ∙ ap (λ x. Some (error.Ip (ip_error_moved place x))) e ∙ sym q.stops)
network_once place s (Some a) (Some b) t u i j p q =
    let lax = lax_once s a b p.ip_stop q.ip_stop p.parts q.parts in
    let transport = transport_once place a b t u p.missing q.missing lax.0 p.reads q.reads in
    (ap Some lax.0, transport.0, p.stops ∙ ap (λ x. first_error place x p.missing) lax.1 ∙ ap (first_error place q.ip_stop) transport.1 ∙ sym q.stops)
network_once place s None (Some b) t u i j p q = absurd (parts_not_refused s b p.e q.parts.parts p.lacks)
network_once place s (Some a) None t u i j p q = absurd (parts_not_refused s a q.e p.parts.parts q.lacks)

-- at most two tags are read
two_tags : (vlan : Option VlanSlice) → length (tags_of vlan) ≤ 2
two_tags None = omega arith
two_tags (Some (SingleVlan tag)) = omega arith
two_tags (Some (DoubleVlan outer inner)) = omega arith

all_tags : (tags : List (List ℕ)) (d : Option ℕ) (x : List ℕ) → (length tags ≡ 2) ⊎ IsFalse (is_tag d) → AreLast 2 tags d x
all_tags tags d x (inl full) = inl full
all_tags tags d x (inr other) = inr (inl other)

last_tags : (frame_len : ℕ) (p : SlicedPacket) (stop : Option SliceError) → StopsInTag frame_len p stop ⊎ CarriesOther p stop ⊎ CarriesIp frame_len p stop
    → AreLast 2 (tags_of p.vlan) p.ether_type p.payload.now
last_tags frame_len p stop (inl e) = inr (inr e.ends.short)
last_tags frame_len p stop (inr (inl e)) = all_tags (tags_of p.vlan) p.ether_type p.payload.now e.tags
last_tags frame_len p stop (inr (inr e)) = all_tags (tags_of p.vlan) p.ether_type p.payload.now e.tags

-- packets with the same before their IP packet
record SameStart (p q : SlicedPacket) : Type 0 where
  link : option_map link_parts p.link ≡ option_map link_parts q.link
  tags : tags_of p.vlan ≡ tags_of q.vlan
  ether_type : p.ether_type ≡ q.ether_type
  payload : p.payload.now ≡ q.payload.now

same_kind : (p q : SlicedPacket) → SameStart p q → carries_ip (option_map link_parts p.link) p.ether_type ≡ carries_ip (option_map link_parts q.link) q.ether_type
same_kind p q same = ap (λ l. carries_ip l p.ether_type) same.link ∙ ap (carries_ip (option_map link_parts q.link)) same.ether_type

-- none of at most two tags is incomplete where all of them are there
no_tag : (ts us : List (List ℕ)) (d e : Option ℕ) → ts ≡ us → d ≡ e → length ts < 2 → IsTrue (is_tag d) → (length us ≡ 2) ⊎ IsFalse (is_tag e) → ⊥
no_tag ts us d e same type few is (inl full) = omega (arith, few, full, ap length same)
no_tag ts us d e same type few is (inr other) = let kind = ap is_tag type in cc

ends_once : (frame_len : ℕ) (p q : SlicedPacket) (i j : Option SliceError) → SameStart p q → StopsInTag frame_len p i ⊎ CarriesOther p i ⊎ CarriesIp frame_len p i
    → StopsInTag frame_len q j ⊎ CarriesOther q j ⊎ CarriesIp frame_len q j
    → (option_map ip_parts p.net ≡ option_map ip_parts q.net) × (option_map transport_parts p.transport ≡ option_map transport_parts q.transport) × (i ≡ j)
ends_once frame_len p q i j same (inl e) (inl f) = (
  ap (option_map ip_parts) (e.net ∙ sym f.net),
  ap (option_map transport_parts) (e.transport ∙ sym f.transport),
  e.stops ∙ ap (λ x. Some (error.Vlan x)) (e.ends.error ∙ ap (λ s. tag_error (frame_len - length s) (length s)) same.payload ∙ sym f.ends.error) ∙ sym f.stops,
)
ends_once frame_len p q i j same (inr (inl e)) (inr (inl f)) =
    (ap (option_map ip_parts) (e.net ∙ sym f.net), ap (option_map transport_parts) (e.transport ∙ sym f.transport), e.goes_on ∙ sym f.goes_on)
ends_once frame_len p q i j same (inr (inr e)) (inr (inr f)) = network_once (frame_len - length q.payload.now) q.payload.now p.net q.net p.transport q.transport i j
    (subst (λ s. HasNetwork (frame_len - length s) s p.net p.transport i) same.payload e.network) f.network
ends_once frame_len p q i j same (inl e) (inr (inl f)) = absurd (no_tag _ _ _ _ same.tags same.ether_type e.ends.few e.ends.tag f.tags)
ends_once frame_len p q i j same (inl e) (inr (inr f)) = absurd (no_tag _ _ _ _ same.tags same.ether_type e.ends.few e.ends.tag f.tags)
ends_once frame_len p q i j same (inr (inl e)) (inl f) = absurd (no_tag _ _ _ _ (sym same.tags) (sym same.ether_type) f.ends.few f.ends.tag e.tags)
ends_once frame_len p q i j same (inr (inr e)) (inl f) = absurd (no_tag _ _ _ _ (sym same.tags) (sym same.ether_type) f.ends.few f.ends.tag e.tags)
ends_once frame_len p q i j same (inr (inl e)) (inr (inr f)) = let kind = same_kind p q same in let no = e.other in let yes = f.ip in cc
ends_once frame_len p q i j same (inr (inr e)) (inr (inl f)) = let kind = same_kind p q same in let no = f.other in let yes = e.ip in cc

-- the layers after a link header are read in one way
pub layers_once : (frame_len : ℕ) (first : Option ℕ) (bytes : List ℕ) (p q : SlicedPacket) (i j : Option SliceError) → option_map link_parts p.link ≡ option_map link_parts q.link
    → HasLayers frame_len first bytes p i → HasLayers frame_len first bytes q j → (layers_of p ≡ layers_of q) × (i ≡ j)
layers_once frame_len first bytes p q i j link a b =
    let tags = tags_once 2 (tags_of p.vlan) (tags_of q.vlan) first p.ether_type q.ether_type bytes p.payload.now q.payload.now (two_tags p.vlan) (two_tags q.vlan)
    a.tags.tags b.tags.tags a.tags.whole b.tags.whole (last_tags frame_len p i a.ends) (last_tags frame_len q j b.ends) in
    let ends = ends_once frame_len p q i j (record { link = link; tags = tags.0; ether_type = tags.1; payload = tags.2 }) a.ends b.ends in
    (cc, ends.2)

-- a frame is read in one way
pub frame_once : (link_type : LinkType) (frame : List ℕ) (p q : SlicedPacket) (i j : Option SliceError) → IsFrame link_type frame p i → IsFrame link_type frame q j
    → (layers_of p ≡ layers_of q) × (i ≡ j)
frame_once link_type frame p q i j a b =
    let link = link_once link_type frame p.link q.link a.ether_type b.ether_type a.bytes b.bytes a.begins b.begins in
    layers_once (length frame) b.ether_type b.bytes p q i j link.0 (subst (λ z. HasLayers (length frame) b.ether_type z p i) link.2 (subst (λ d. HasLayers (length frame) d a.bytes p i) link.1 a.layers)) b.layers

after_once : (first : Option ℕ) (bytes : List ℕ) (p q : SlicedPacket) (i j : Option SliceError) → HasLayersAfter first bytes p i → HasLayersAfter first bytes q j
    → (layers_of p ≡ layers_of q) × (i ≡ j)
after_once first bytes p q i j a b = layers_once (length bytes) first bytes p q i j (ap (option_map link_parts) (a.link ∙ sym b.link)) a.layers b.layers

-- a frame with a link header is not shorter than that
linked : (link_type : LinkType) (frame : List ℕ) (p : SlicedPacket) (i : Option SliceError) (e : LinkError) → IsFrame link_type frame p i → LacksLink link_type frame e → ⊥
linked link_type frame p i e a lacks = omega (arith, ap length a.begins.whole, length-append {A = ℕ}, a.begins.len, lacks.short)

lax_frame_once : (link_type : LinkType) (frame : List ℕ) (a b : Result LaxSlicedPacket LinkError) → ReadsLaxFrame link_type frame a → ReadsLaxFrame link_type frame b
    → result_map_both lax_layers (λ e. e) a ≡ result_map_both lax_layers (λ e. e) b
lax_frame_once link_type frame (Ok x) (Ok y) p q = let same = frame_once link_type frame x.packet y.packet x.stop y.stop p q in cc
lax_frame_once link_type frame (Err e) (Err f) p q = ap Err (p.error ∙ sym q.error)
lax_frame_once link_type frame (Ok x) (Err f) p q = absurd (linked link_type frame x.packet x.stop f p q)
lax_frame_once link_type frame (Err e) (Ok y) p q = absurd (linked link_type frame y.packet y.stop e q p)

-- what is read in one way as far as it goes is read in one way whole
whole_once : (Lax : SlicedPacket → Option SliceError → Type 0) → ((p q : SlicedPacket) (i j : Option SliceError) → Lax p i → Lax q j → (layers_of p ≡ layers_of q) × (i ≡ j))
    → (a b : Result SlicedPacket SliceError) → ReadsWhole Lax a → ReadsWhole Lax b → whole_layers a ≡ whole_layers b
whole_once Lax once (Ok x) (Ok y) p q = ap Ok (once x y None None p q).0
whole_once Lax once (Err e) (Err f) p q = let same = (once p.0 q.0 (Some e) (Some f) p.1 q.1).1 in cc
whole_once Lax once (Ok x) (Err f) p q = let same = (once x q.0 None (Some f) p q.1).1 in cc
whole_once Lax once (Err e) (Ok y) p q = let same = (once p.0 y (Some e) None p.1 q).1 in cc

whole_frame_once : (link_type : LinkType) (frame : List ℕ) (a b : Result SlicedPacket SliceError) → ReadsFrame link_type frame a → ReadsFrame link_type frame b
    → whole_layers a ≡ whole_layers b
whole_frame_once link_type frame (Ok x) (Ok y) p q = whole_once (IsFrame link_type frame) (frame_once link_type frame) (Ok x) (Ok y) p q
whole_frame_once link_type frame (Ok x) (Err f) p (inr q) = whole_once (IsFrame link_type frame) (frame_once link_type frame) (Ok x) (Err f) p q
whole_frame_once link_type frame (Err e) (Ok y) (inr p) q = whole_once (IsFrame link_type frame) (frame_once link_type frame) (Err e) (Ok y) p q
whole_frame_once link_type frame (Err e) (Err f) (inr p) (inr q) = whole_once (IsFrame link_type frame) (frame_once link_type frame) (Err e) (Err f) p q
whole_frame_once link_type frame (Err e) (Err f) (inl p) (inl q) = ap Err (p.error ∙ ap error.Link (p.lacks.error ∙ sym q.lacks.error) ∙ sym q.error)
whole_frame_once link_type frame (Ok x) (Err f) p (inl q) = absurd (linked link_type frame x None q.inside p q.lacks)
whole_frame_once link_type frame (Err e) (Ok y) (inl p) q = absurd (linked link_type frame y None p.inside q p.lacks)
whole_frame_once link_type frame (Err e) (Err f) (inl p) (inr q) = absurd (linked link_type frame q.0 (Some f) p.inside q.1 p.lacks)
whole_frame_once link_type frame (Err e) (Err f) (inr p) (inl q) = absurd (linked link_type frame p.0 (Some e) q.inside p.1 q.lacks)

-- so an answer that is allowed is the only one
pub lax_frame_read : (link_type : LinkType) (frame : List ℕ) (a : Result LaxSlicedPacket LinkError) → ReadsLaxFrame link_type frame a → IsLaxReadingOf link_type frame a
lax_frame_read link_type frame a p = record { reads = p; only = λ b q. lax_frame_once link_type frame b a q p }

pub lax_after_read : (first : Option ℕ) (bytes : List ℕ) (a : LaxSlicedPacket) → HasLayersAfter first bytes a.packet a.stop → IsLaxReadingAfter first bytes a
lax_after_read first bytes a p =
    record { reads = p; only = λ b q. let same = after_once first bytes b.packet a.packet b.stop a.stop q p in cc }

read_whole : (Lax : SlicedPacket → Option SliceError → Type 0) (p : SlicedPacket) (i : Option SliceError) → Lax p i → ReadsWhole Lax (whole_of p i)
read_whole Lax p None reads = reads
read_whole Lax p (Some e) reads = (p, reads)

read_frame : (link_type : LinkType) (frame : List ℕ) (p : SlicedPacket) (i : Option SliceError) → IsFrame link_type frame p i → ReadsFrame link_type frame (whole_of p i)
read_frame link_type frame p None reads = reads
read_frame link_type frame p (Some e) reads = inr (p, reads)

pub frame_read : (link_type : LinkType) (frame : List ℕ) (p : SlicedPacket) (i : Option SliceError) → IsFrame link_type frame p i → IsReadingOf link_type frame (whole_of p i)
frame_read link_type frame p i reads =
    record { reads = read_frame link_type frame p i reads; only = λ b q. whole_frame_once link_type frame b (whole_of p i) q (read_frame link_type frame p i reads) }

-- so is the error of a frame that ends within its link header
pub link_refused : (link_type : LinkType) (frame : List ℕ) (e : LinkError) → LacksLink link_type frame e → IsReadingOf link_type frame (Err (error.Link e))
link_refused link_type frame e lacks =
    let reads : ReadsFrame link_type frame (Err (error.Link e)) = inl (record { inside = e; lacks = lacks; error = refl }) in
    record { reads = reads; only = λ b q. whole_frame_once link_type frame b (Err (error.Link e)) q reads }

pub after_read : (first : Option ℕ) (bytes : List ℕ) (p : SlicedPacket) (i : Option SliceError) → HasLayersAfter first bytes p i → IsReadingAfter first bytes (whole_of p i)
after_read first bytes p i reads = record {
  reads = read_whole (HasLayersAfter first bytes) p i reads;
  only = λ b q. whole_once (HasLayersAfter first bytes) (after_once first bytes) b (whole_of p i) q (read_whole (HasLayersAfter first bytes) p i reads);
}
