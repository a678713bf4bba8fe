use Rattle.std.proofs.lemmas.Bool.Decides.{Decides-at}
use Rattle.etherparse_base.proofs.DerivedEquality.{ipv4_header_slice_error_same}
use Rattle.etherparse_base.proofs.laws.ipv4_header_slice_error_equality.Goals as goal

pub returns : goal.returns
returns c = record { same_value = Decides-at c.eq.result _ c.eq.ensures (ipv4_header_slice_error_same c.args.a.now c.args.b.now) }
