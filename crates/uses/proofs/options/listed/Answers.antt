use Rattle.std.proofs.Common.{[], arith, refl}
use Rattle.std.proofs.lemmas.Grind.{common_steps}
use Rattle.std.proofs.lemmas.List.{append-nil}
use Rattle.uses.proofs.options.listed.Goals as goal

pub returns-in_default-clause-broken : goal.returns-in_default-clause-broken
returns-in_default-clause-broken c = record {
  options = _;
  rest = c.options.rest.now;
  before = c.options.invariant.so_far [] c.options.rest.now refl;
  at = omega (arith, c.options.invariant.room);
  broken = c.in_default.ensures.none;
}

pub returns-then-is_empty-clause-listed : goal.returns-then-is_empty-clause-listed
returns-then-is_empty-clause-listed c = record {
  rest = c.options.rest.now;
  are = rw append-nil at (c.options.invariant.so_far [] c.options.rest.now refl);
  end = grind (arith, common_steps);
}
