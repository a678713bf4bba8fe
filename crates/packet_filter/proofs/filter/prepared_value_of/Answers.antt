use Rattle.std.proofs.Common.{◌<◌, ap, arith, length, refl}
use Rattle.packet_filter.specs.Program.{expression_of}
use Rattle.packet_filter.specs.declared.filter.Step.TheVariants as step
use Rattle.packet_filter.proofs.Runs.{IsRight, length_decisions, next_place, right_at_end, right_at_start, step_at, within}
use Rattle.packet_filter.proofs.filter.prepared_value_of.Goals.{After-place-place}
use Rattle.packet_filter.proofs.filter.prepared_value_of.Goals as goal

pub steps-init : goal.steps-init
steps-init c = record { right = right_at_start c.args.packet.now c.args.len c.args.steps.now (expression_of c.args.steps.now) c.requires.computes }

pub bounds-decisions-place : goal.bounds-decisions-place
bounds-decisions-place c =
    let at_most = within c.args.packet.now c.args.len (expression_of c.args.steps.now) c.args.steps.now c.steps.place c.steps.invariant.right in
    omega (arith, at_most, length_decisions c.args.steps.now, ap length c.requires.decisions)

next : (c : After-place-place) → IsRight c.args.packet.now c.args.len c.args.steps.now (expression_of c.args.steps.now) c.place-place.result × (c.place-place.result < c.steps.place)
next c =
    let here = step_at c.args.packet.now c.args.len c.args.steps.now (expression_of c.args.steps.now) c.steps.place _ step.Not c.steps.invariant.right c.steps-test.true refl in
    next_place c.args.packet.now c.args.len c.args.steps.now (expression_of c.args.steps.now) c.steps.place c.place-place.result _ c.args.decisions.now _ c.in-Some.holds here c.requires.decisions (c.in-Some.ensures.value _) c.place-place.ensures.value

pub steps-preserved : goal.steps-preserved
steps-preserved c = record { right = (next (goal.at.steps-preserved c).After-place-place).0 }

pub steps-smaller : goal.steps-smaller
steps-smaller c = (next (goal.at.steps-smaller c).After-place-place).1

pub returns : goal.returns
returns c = record { value = right_at_end c.args.packet.now c.args.len c.args.steps.now (expression_of c.args.steps.now) c.steps.place c.steps.invariant.right c.steps-test.false }
