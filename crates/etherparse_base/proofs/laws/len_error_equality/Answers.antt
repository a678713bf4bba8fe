use Rattle.std.proofs.lemmas.Bool.Decides.{Decides-at}
use Rattle.etherparse_base.proofs.DerivedEquality.{len_error_same}
use Rattle.etherparse_base.proofs.laws.len_error_equality.Goals as goal

pub returns : goal.returns
returns c = record { same_value = Decides-at c.eq.result _ c.eq.ensures (len_error_same c.args.a.now c.args.b.now) }
