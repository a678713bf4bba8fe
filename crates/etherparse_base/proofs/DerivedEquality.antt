-- The derived equality of errors that hold a length error is equality.
use Rattle.std.proofs.Common.{◌≡◌, ap}
use Rattle.std.proofs.lemmas.Bool.Decides.{Decides-and, Decides-eqb, Decides-like}
use Rattle.std.specs.Bool.{Decides}
use denote.Enum.Bare.{sameb, same_true, true_same}
use Rattle.etherparse_base.specs.contracts.err.ipv4.header_slice_error.HeaderSliceErrorPartialEq.TheImpl as ipv4_header_slice
use Rattle.etherparse_base.specs.contracts.err.ipv6.chain_error.ChainErrorPartialEq.TheImpl as chain
use Rattle.etherparse_base.specs.contracts.err.ipv6.header_slice_error.HeaderSliceErrorPartialEq.TheImpl as ipv6_header_slice
use Rattle.etherparse_base.specs.contracts.err.layer.Layer as layers
use Rattle.etherparse_base.specs.contracts.err.len_error.LenErrorPartialEq.TheImpl as len_error
use Rattle.etherparse_base.specs.contracts.len_source.LenSource as len_sources
use Rattle.etherparse_base.specs.declared.err.ipv4.header_error.HeaderError.TheVariants as ipv4_header
use Rattle.etherparse_base.specs.declared.err.ipv4.header_slice_error.HeaderSliceError.TheVariants as ipv4_slice
use Rattle.etherparse_base.specs.declared.err.ipv6.chain_error.ChainError.TheVariants as ipv6_chain
use Rattle.etherparse_base.specs.declared.err.ipv6.header_error.HeaderError.TheVariants as ipv6_header
use Rattle.etherparse_base.specs.declared.err.ipv6.header_slice_error.HeaderSliceError.TheVariants as ipv6_slice
use Rattle.etherparse_base.specs.declared.err.layer.Layer.{Layer}
use Rattle.etherparse_base.specs.declared.err.len_error.LenError.{LenError}
use Rattle.etherparse_base.specs.declared.len_source.LenSource.{LenSource}

-- of layers and of sources of a length
layer_same : (a b : Layer) → Decides (sameb layers.the_type a b) (a ≡ b)
layer_same a b = (same_true layers.the_type tt a b, true_same layers.the_type a b)

len_source_same : (a b : LenSource) → Decides (sameb len_sources.the_type a b) (a ≡ b)
len_source_same a b = (same_true len_sources.the_type tt a b, true_same len_sources.the_type a b)

-- of length errors
pub len_error_same : (a b : LenError) → Decides ((len_error.ghosts).eq a b) (a ≡ b)
len_error_same a b = Decides-like _
    (λ h i. record { required_len = h.0 i; len = h.1.0 i; len_source = h.1.1.0 i; layer = h.1.1.1.0 i; layer_start_offset = h.1.1.1.1 i })
    (λ e. (λ i. (e i).required_len, (λ i. (e i).len, (λ i. (e i).len_source, (λ i. (e i).layer, λ i. (e i).layer_start_offset)))))
    (Decides-and _ _ (Decides-eqb a.required_len b.required_len) (Decides-and _ _ (Decides-eqb a.len b.len)
    (Decides-and _ _ (len_source_same a.len_source b.len_source) (Decides-and _ _ (layer_same a.layer b.layer) (Decides-eqb a.layer_start_offset b.layer_start_offset)))))

-- of the errors that hold one
pub ipv4_header_slice_error_same : (a b : ipv4_slice.the_data) → Decides ((ipv4_header_slice.ghosts).eq a b) (a ≡ b)
ipv4_header_slice_error_same (ipv4_slice.Len x) (ipv4_slice.Len y) = Decides-like _ (ap ipv4_slice.Len) (λ e. cc) (len_error_same x y)
ipv4_header_slice_error_same (ipv4_slice.Content (ipv4_header.UnexpectedVersion m)) (ipv4_slice.Content (ipv4_header.UnexpectedVersion n)) =
    Decides-like _ (λ e. cc) (λ e. cc) (Decides-eqb m n)
ipv4_header_slice_error_same (ipv4_slice.Content (ipv4_header.HeaderLengthSmallerThanHeader m)) (ipv4_slice.Content (ipv4_header.HeaderLengthSmallerThanHeader n)) =
    Decides-like _ (λ e. cc) (λ e. cc) (Decides-eqb m n)
ipv4_header_slice_error_same a b = (λ h. cc, λ h. cc)

pub ipv6_header_slice_error_same : (a b : ipv6_slice.the_data) → Decides ((ipv6_header_slice.ghosts).eq a b) (a ≡ b)
ipv6_header_slice_error_same (ipv6_slice.Len x) (ipv6_slice.Len y) = Decides-like _ (ap ipv6_slice.Len) (λ e. cc) (len_error_same x y)
ipv6_header_slice_error_same (ipv6_slice.Content (ipv6_header.UnexpectedVersion m)) (ipv6_slice.Content (ipv6_header.UnexpectedVersion n)) =
    Decides-like _ (λ e. cc) (λ e. cc) (Decides-eqb m n)
ipv6_header_slice_error_same a b = (λ h. cc, λ h. cc)

pub chain_error_same : (a b : ipv6_chain.the_data) → Decides ((chain.ghosts).eq a b) (a ≡ b)
chain_error_same (ipv6_chain.Len x) (ipv6_chain.Len y) = Decides-like _ (ap ipv6_chain.Len) (λ e. cc) (len_error_same x y)
chain_error_same (ipv6_chain.TooMany k m n) (ipv6_chain.TooMany p q r) = Decides-like _ (λ h. cc) (λ e. (cc, (cc, cc)))
    (Decides-and _ _ (Decides-eqb k p) (Decides-and _ _ (Decides-eqb m q) (Decides-eqb n r)))
chain_error_same a b = (λ h. cc, λ h. cc)
