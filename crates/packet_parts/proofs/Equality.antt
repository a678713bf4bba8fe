-- What the derived `==` of a packet's parts and of its errors says.
use Rattle.std.proofs.Common.{◌≡◌, Bool, None, Option, Some, ap, false, option_map, refl, rules, true}
use Rattle.std.proofs.lemmas.Bool.{eq-eqb, eqb-true}
use Rattle.std.proofs.lemmas.Bool.Decides.{Decides-and, Decides-eqb, Decides-like}
use Rattle.std.proofs.lemmas.Slice.Eq.{bytes_eq-Decides}
use Rattle.std.specs.Bool.{Decides}
use Rattle.std.specs.Option.{option_eq}
use Rattle.std.specs.Prelude.{◌&&◌, ◌↔◌, IsTrue}
use mathlib.Core.Bool.{beq}
use denote.Enum.Bare.{sameb, same_true, true_same}
use Rattle.etherparse.specs.contracts.LenSource as len_sources
use Rattle.etherparse.specs.contracts.err.Layer as layers
use Rattle.etherparse.specs.declared.LenSource.{LenSource}
use Rattle.etherparse.specs.declared.err.Layer.{Layer}
use Rattle.etherparse.specs.declared.err.LenError.{LenError}
use Rattle.etherparse.specs.declared.err.ipv4.HeaderError.TheVariants as version4
use Rattle.etherparse.specs.declared.err.ipv4.HeaderSliceError.{HeaderSliceError as Four}
use Rattle.etherparse.specs.declared.err.ipv4.HeaderSliceError.TheVariants as four
use Rattle.etherparse.specs.declared.err.ipv6.HeaderError.TheVariants as version6
use Rattle.etherparse.specs.declared.err.ipv6.HeaderSliceError.{HeaderSliceError as Six}
use Rattle.etherparse.specs.declared.err.ipv6.HeaderSliceError.TheVariants as six
use Rattle.packet_parts.specs.IpSlice.{header_parts, ip_parts}
use Rattle.packet_parts.specs.contracts.fragment.FragmentPartialEq.TheImpl as fragment_derived
use Rattle.packet_parts.specs.contracts.ip_slice.IpHeaderSlicePartialEq.TheImpl as header_derived
use Rattle.packet_parts.specs.contracts.ip_slice.IpSliceErrorPartialEq.TheImpl as error_derived
use Rattle.packet_parts.specs.contracts.ip_slice.IpSlicePartialEq.TheImpl as slice_derived
use Rattle.packet_parts.specs.declared.fragment.Fragment.{Fragment}
use Rattle.packet_parts.specs.declared.ip_slice.IpHeaderSlice.{IpHeaderSlice}
use Rattle.packet_parts.specs.declared.ip_slice.IpSlice.{IpSlice}
use Rattle.packet_parts.specs.declared.ip_slice.IpSliceError.{IpSliceError}
use Rattle.packet_parts.specs.declared.ip_slice.IpSliceError.TheVariants as error

not_true : false ≡ true → ⊥
not_true e = cc

-- of layers and of sources of a length
layer_same : (a b : Layer) → Decides (sameb layers.the_type a b) (a ≡ b)
layer_same a b = (same_true layers.the_type tt a b, true_same layers.the_type a b)

len_source_same : (a b : LenSource) → Decides (sameb len_sources.the_type a b) (a ≡ b)
len_source_same a b = (same_true len_sources.the_type tt a b, true_same len_sources.the_type a b)

-- an error of a length, as that of a packet is compared
len_eq : (e f : LenError) → IsTrue ((error_derived.ghosts).eq (error.Packet e) (error.Packet f)) ↔ (e ≡ f)
len_eq e f = Decides-like _
    (λ h i. record { required_len = h.0 i; len = h.1.0 i; len_source = h.1.1.0 i; layer = h.1.1.1.0 i; layer_start_offset = h.1.1.1.1 i })
    (λ e. (λ i. (e i).required_len, (λ i. (e i).len, (λ i. (e i).len_source, (λ i. (e i).layer, λ i. (e i).layer_start_offset)))))
    (Decides-and _ _ (Decides-eqb e.required_len f.required_len) (Decides-and _ _ (Decides-eqb e.len f.len)
    (Decides-and _ _ (len_source_same e.len_source f.len_source) (Decides-and _ _ (layer_same e.layer f.layer) (Decides-eqb e.layer_start_offset f.layer_start_offset)))))

-- an error of an IPv4 header, and of an IPv6 header
four_eq : (e f : Four) → IsTrue ((error_derived.ghosts).eq (error.Ipv4Header e) (error.Ipv4Header f)) ↔ (e ≡ f)
four_eq (four.Len e) (four.Len f) = (λ h. ap four.Len ((len_eq e f).0 h), λ h. (len_eq e f).1 cc)
four_eq (four.Content (version4.UnexpectedVersion m)) (four.Content (version4.UnexpectedVersion n)) = (λ h. let e = eqb-true m n h in cc, λ e. eq-eqb m n cc)
four_eq (four.Content (version4.HeaderLengthSmallerThanHeader m)) (four.Content (version4.HeaderLengthSmallerThanHeader n)) = (λ h. let e = eqb-true m n h in cc, λ e. eq-eqb m n cc)
four_eq _ _ = (λ h. absurd (not_true h), λ same. cc)

six_eq : (e f : Six) → IsTrue ((error_derived.ghosts).eq (error.Ipv6Header e) (error.Ipv6Header f)) ↔ (e ≡ f)
six_eq (six.Len e) (six.Len f) = (λ h. ap six.Len ((len_eq e f).0 h), λ h. (len_eq e f).1 cc)
six_eq (six.Content (version6.UnexpectedVersion m)) (six.Content (version6.UnexpectedVersion n)) = (λ h. let e = eqb-true m n h in cc, λ e. eq-eqb m n cc)
six_eq _ _ = (λ h. absurd (not_true h), λ same. cc)

pub ip_error_eq : (e f : IpSliceError) → IsTrue ((error_derived.ghosts).eq e f) ↔ (e ≡ f)
ip_error_eq (error.UnexpectedVersion v) (error.UnexpectedVersion w) = Decides-like _ (λ e. cc) (λ e. cc) (Decides-eqb v w)
ip_error_eq (error.Ipv4Header e) (error.Ipv4Header f) = (λ h. ap error.Ipv4Header ((four_eq e f).0 h), λ h. (four_eq e f).1 cc)
ip_error_eq (error.Ipv6Header e) (error.Ipv6Header f) = (λ h. ap error.Ipv6Header ((six_eq e f).0 h), λ h. (six_eq e f).1 cc)
ip_error_eq (error.Packet e) (error.Packet f) = (λ h. ap error.Packet ((len_eq e f).0 h), λ h. (len_eq e f).1 cc)
ip_error_eq (error.Extensions e) (error.Extensions f) = (λ h. ap error.Extensions ((len_eq e f).0 h), λ h. (len_eq e f).1 cc)
ip_error_eq (error.Empty e) (error.Empty f) = (λ h. ap error.Empty ((len_eq e f).0 h), λ h. (len_eq e f).1 cc)
ip_error_eq _ _ = (λ h. absurd (not_true h), λ same. cc)

-- what may be there is equal if both are not there, or both are and equal: the same, or saying the same
pub present_eq : {A : Type 0} (eq : A → A → Bool) → ((x y : A) → IsTrue (eq x y) ↔ (x ≡ y)) → (a b : Option A) → IsTrue (option_eq eq a b) ↔ (a ≡ b)
present_eq eq same None None = search rules
present_eq eq same (Some x) (Some y) = (λ h. ap Some ((same x y).0 h), λ h. (same x y).1 cc)
present_eq eq same None (Some y) = search rules
present_eq eq same (Some x) None = search rules

pub optional_eq : {A B : Type 0} (eq : A → A → Bool) (said : A → B) → ((x y : A) → IsTrue (eq x y) ↔ (said x ≡ said y)) → (a b : Option A)
    → IsTrue (option_eq eq a b) ↔ (option_map said a ≡ option_map said b)
optional_eq eq said same None None = search rules
optional_eq eq said same (Some x) (Some y) = (λ h. ap Some ((same x y).0 h), λ h. (same x y).1 cc)
optional_eq eq said same None (Some y) = search rules
optional_eq eq said same (Some x) None = search rules

pub both_eq : (p q : Bool) {P Q : Type 0} → (IsTrue p ↔ P) → (IsTrue q ↔ Q) → IsTrue (p && q) ↔ (P × Q)
both_eq true q f g = (λ h. (f.0 refl, g.0 h), λ h. g.1 h.1)
both_eq false q f g = (λ h. cc, λ h. f.1 h.0)

flag_eq : (p q : Bool) → IsTrue (beq p q) ↔ (p ≡ q)
flag_eq p q = search rules

header_eq : (a b : IpHeaderSlice) → IsTrue ((header_derived.ghosts).eq a b) ↔ (header_parts a ≡ header_parts b)
header_eq a b = search rules

fragment_eq : (a b : Fragment) → IsTrue ((fragment_derived.ghosts).eq a b) ↔ (a ≡ b)
fragment_eq a b = Decides-like _ (λ h i. record { identification = h.0 i; offset = h.1.0 i; more_fragments = h.1.1 i })
    (λ e. (λ i. (e i).identification, (λ i. (e i).offset, λ i. (e i).more_fragments)))
    (both_eq _ _ (Decides-eqb a.identification b.identification) (both_eq _ _ (Decides-eqb a.offset b.offset) (flag_eq a.more_fragments b.more_fragments)))

pub ip_eq : (a b : IpSlice) → IsTrue ((slice_derived.ghosts).eq a b) ↔ (ip_parts a ≡ ip_parts b)
ip_eq a b =
    let upper = Decides-eqb a.upper b.upper in
    let payloads = bytes_eq-Decides a.payload.now b.payload.now in
    let fragments = present_eq (fragment_derived.ghosts).eq fragment_eq a.fragment b.fragment in
    let after = both_eq _ _ fragments (both_eq _ _ (flag_eq a.is_later_fragment b.is_later_fragment) (both_eq _ _ upper payloads)) in
    let all = both_eq _ _ (header_eq a.header b.header) (both_eq _ _ (bytes_eq-Decides a.extensions.now b.extensions.now) after) in (
      λ h. let same = all.0 h in cc,
      λ h. all.1 (ap (λ p. p.header) h, (ap (λ p. p.extensions) h, (ap (λ p. p.fragment) h, (ap (λ p. p.is_later_fragment) h, (ap (λ p. p.upper) h, ap (λ p. p.payload) h))))),
    )
