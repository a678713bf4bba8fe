use Rattle.std.proofs.Common.{◌≡◌, ◌+◌, ◌∷◌, ap, arith, length, refl}
use Rattle.std.proofs.lemmas.Grind.{common_steps}
use Rattle.packet_filter.specs.Private.Jumps.{but_last, jump_by, operands_of}
use Rattle.packet_filter.proofs.Runs.{length_decisions}
use Rattle.packet_filter.proofs.jumps.decisions_of.Goals as goal

pub steps-preserved : goal.steps-preserved
steps-preserved c =
    let done = c.steps.invariant.done in
    let taken = c.jump_by-jump.ensures.taken (operands_of done) c.steps.invariant.operands in
    let jump = c.jump_by-jump.ensures.value (operands_of done) c.steps.invariant.operands in
    let same : c.len.result ≡ length done = grind (arith, c.len.ensures.value, ap length c.steps.invariant.jumps, length_decisions done) in
    let leads : c.jump_by-jump.result ≡ jump_by (operands_of done) (length done + 1) = rw same at jump in
    let added = c.push_operands.ensures.added (but_last (operands_of done)) taken in
    record {
      done = c.in-Some.step.now ∷ done;
      parts = grind (arith, common_steps, c.in-Some.ensures, c.steps.invariant.parts);
      jumps = rw (c.push-in-Some.ensures.items, c.steps.invariant.jumps, c.quick_of_step.ensures.value, jump, same) refl;
      operands = rw (← leads) added;
      few = grind (arith, common_steps);
      len = grind (arith, common_steps);
    }
