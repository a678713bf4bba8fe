use Rattle.std.proofs.Common.{◌≡◌, ap}
use Rattle.std.proofs.lemmas.Bool.Decides.{Decides-and, Decides-at, Decides-eqb, Decides-like}
use Rattle.std.specs.Bool.{Decides}
use denote.Enum.Bare.{same_true, true_same}
use Rattle.etherparse.specs.contracts.LenSource as sources
use Rattle.etherparse.specs.contracts.err.Layer as layers
use Rattle.etherparse_transport.specs.contracts.tcp.TcpErrorPartialEq.TheImpl as derived
use Rattle.etherparse_transport.specs.declared.tcp.TcpError.TheVariants as error
use Rattle.etherparse_transport.proofs.laws.tcp_error_equality.Goals as goal

same : (a b : error.the_data) → Decides ((derived.ghosts).eq a b) (a ≡ b)
same (error.Len x) (error.Len y) = Decides-like _
    (λ h. ap error.Len (λ i. record { required_len = h.0 i; len = h.1.0 i; len_source = h.1.1.0 i; layer = h.1.1.1.0 i; layer_start_offset = h.1.1.1.1 i }))
    (λ e. (cc, (cc, (cc, (cc, cc)))))
    (Decides-and _ _ (Decides-eqb x.required_len y.required_len) (Decides-and _ _ (Decides-eqb x.len y.len)
    (Decides-and _ _ (same_true sources.the_type tt x.len_source y.len_source, true_same sources.the_type x.len_source y.len_source)
    (Decides-and _ _ (same_true layers.the_type tt x.layer y.layer, true_same layers.the_type x.layer y.layer) (Decides-eqb x.layer_start_offset y.layer_start_offset)))))
same (error.DataOffset m) (error.DataOffset n) = Decides-like _ (λ h. ap error.DataOffset h) (λ e. cc) (Decides-eqb m n)
same a b = (λ h. cc, λ h. cc)

pub returns : goal.returns
returns c = record { same_value = Decides-at c.eq.result _ c.eq.ensures (same c.args.a.now c.args.b.now) }
