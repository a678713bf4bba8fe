use Rattle.std.proofs.Common.{◌≡◌, ap}
use Rattle.std.proofs.lemmas.Bool.Decides.{Decides-and, Decides-at, Decides-eqb, Decides-like}
use Rattle.std.specs.Bool.{Decides}
use denote.Enum.Bare.{same_true, true_same}
use Rattle.etherparse.specs.contracts.LenSource as sources
use Rattle.etherparse.specs.contracts.err.Layer as layers
use Rattle.etherparse_link.specs.contracts.err.double_vlan.HeaderSliceErrorPartialEq.TheImpl as derived
use Rattle.etherparse_link.specs.declared.err.double_vlan.HeaderError.TheVariants as header
use Rattle.etherparse_link.specs.declared.err.double_vlan.HeaderSliceError.TheVariants as slice
use Rattle.etherparse_link.proofs.laws.double_vlan_header_slice_error_equality.Goals as goal

same : (a b : slice.the_data) → Decides ((derived.ghosts).eq a b) (a ≡ b)
same (slice.Len x) (slice.Len y) = Decides-like _
    (λ h. ap slice.Len (λ i. record { required_len = h.0 i; len = h.1.0 i; len_source = h.1.1.0 i; layer = h.1.1.1.0 i; layer_start_offset = h.1.1.1.1 i }))
    (λ e. (cc, (cc, (cc, (cc, cc)))))
    (Decides-and _ _ (Decides-eqb x.required_len y.required_len) (Decides-and _ _ (Decides-eqb x.len y.len)
    (Decides-and _ _ (same_true sources.the_type tt x.len_source y.len_source, true_same sources.the_type x.len_source y.len_source)
    (Decides-and _ _ (same_true layers.the_type tt x.layer y.layer, true_same layers.the_type x.layer y.layer) (Decides-eqb x.layer_start_offset y.layer_start_offset)))))
same (slice.Content (header.NonVlanEtherType m)) (slice.Content (header.NonVlanEtherType n)) =
    Decides-like _ (λ e. cc) (λ e. cc) (Decides-eqb m n)
same a b = (λ h. cc, λ h. cc)

pub returns : goal.returns
returns c = record { same_value = Decides-at c.eq.result _ c.eq.ensures (same c.args.a.now c.args.b.now) }
