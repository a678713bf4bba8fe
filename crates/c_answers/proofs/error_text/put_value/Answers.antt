use Rattle.std.proofs.Common.{◌≡◌, ◌<◌, arith, rules}
use Rattle.etherparse.specs.declared.err.ValueType.{ValueType}
use Rattle.etherparse.specs.declared.err.ValueType.TheVariants as value
use Rattle.c_answers.specs.Error.{value_in_c}
use Rattle.c_answers.proofs.error_text.put_value.Goals as goal
use Rattle.c_answers.proofs.error_text.put_value.Goals.{in-1, in-2, in-3, in-4, in-5, in_default}

-- two values that have a number have different ones
same_value : (v w : ValueType) → 0 < value_in_c v → value_in_c v ≡ value_in_c w → v ≡ w
same_value v w some e = search rules

pub returns : goal.returns
returns c = record {
  gives = λ v number some.
      let text = rw (c.digits.ensures.text, c.digits-2.ensures.text) at c.put.ensures.gives in
      elim c.match-error.branch [
        | in-1 w ↦ rw (same_value v value.IpFragmentOffset some (omega arith)) (rw w.name-is at text)
        | in-2 w ↦ rw (same_value v value.IpDscp some (omega arith)) (rw w.name-is at text)
        | in-3 w ↦ rw (same_value v value.IpEcn some (omega arith)) (rw w.name-is at text)
        | in-4 w ↦ rw (same_value v value.Ipv6FlowLabel some (omega arith)) (rw w.name-is at text)
        | in-5 w ↦ rw (same_value v value.Ipv4PayloadLength some (omega arith)) (rw w.name-is at text)
        | in_default w ↦ rw (same_value v value.Ipv6PayloadLength some (omega arith)) (rw w.name-is at text)
      ];
}
