-- The derived order of the value types is that of their indices.
use Rattle.std.proofs.Common.{◌≡◌, refl}
use Rattle.std.specs.Ordering.{nat_cmp}
use Rattle.etherparse_base.specs.ValueType.{value_type_index}
use Rattle.etherparse_base.specs.contracts.err.value_type.ValueType.{as_values, the_parts}
use Rattle.etherparse_base.specs.contracts.err.value_type.ValueTypeOrd.TheImpl as derived
use Rattle.etherparse_base.specs.declared.err.value_type.ValueType.{ValueType}
use Rattle.etherparse_base.specs.declared.err.value_type.ValueType.TheVariants as value
use Rattle.etherparse_base.proofs.VariantOrder.{by_place, place}

-- the index of each value type is its place
index : (a : ValueType) → place the_parts (as_values a) ≡ value_type_index a
index value.VlanId = refl
index _ = refl

-- what `cmp` answers
pub value_type_cmp : (a b : ValueType) → (derived.ghosts).cmp a b ≡ nat_cmp (value_type_index a) (value_type_index b)
value_type_cmp a b = rw (← index a, ← index b) (by_place the_parts (as_values a) (as_values b))
