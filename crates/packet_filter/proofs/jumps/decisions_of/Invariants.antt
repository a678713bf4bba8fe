use Rattle.std.proofs.Common.{◌≡◌, ◌+◌, ◌≤◌, List, ◌++◌, length}
use Rattle.arrayvec.specs.ArrayVec.{array_vec_len}
use Rattle.packet_filter.specs.Private.Jumps.{decisions_of, in_order, operands_of}
use Rattle.packet_filter.specs.declared.filter.Step.{Step}
use Rattle.packet_filter.proofs.jumps.decisions_of.Given as goal

abbrev pub invariant-steps : goal.invariant-steps
invariant-steps l = record {
  done : List Step;
  parts : l.steps ≡ l.rest ++ done;
  jumps : l.decisions.items ≡ decisions_of done;
  operands : l.operands.items ≡ in_order (operands_of done);
  few : array_vec_len l.operands ≤ array_vec_len l.decisions + 1;
  len : length l.rest + array_vec_len l.decisions ≡ length l.steps;
}

abbrev pub decreases-steps : goal.decreases-steps
decreases-steps l = length l.rest
