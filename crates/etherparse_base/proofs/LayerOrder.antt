-- The derived order of the layers is that of their indices.
use Rattle.std.proofs.Common.{◌≡◌, refl}
use Rattle.std.specs.Ordering.{nat_cmp}
use Rattle.etherparse_base.specs.Layer.{layer_index}
use Rattle.etherparse_base.specs.contracts.err.layer.Layer.{as_values, the_parts}
use Rattle.etherparse_base.specs.contracts.err.layer.LayerOrd.TheImpl as derived
use Rattle.etherparse_base.specs.declared.err.layer.Layer.{Layer}
use Rattle.etherparse_base.specs.declared.err.layer.Layer.TheVariants as layer
use Rattle.etherparse_base.proofs.VariantOrder.{by_place, place}

-- the index of each layer is its place
index : (a : Layer) → place the_parts (as_values a) ≡ layer_index a
index layer.LinuxSllHeader = refl
index _ = refl

-- what `cmp` answers
pub layer_cmp : (a b : Layer) → (derived.ghosts).cmp a b ≡ nat_cmp (layer_index a) (layer_index b)
layer_cmp a b = rw (← index a, ← index b) (by_place the_parts (as_values a) (as_values b))
