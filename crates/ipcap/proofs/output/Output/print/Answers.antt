use Rattle.std.proofs.Common.{arith}
use Rattle.std.proofs.lemmas.Grind.{common_steps}
use Rattle.ipcap.proofs.output.Output.print.Goals as goal

pub returns-clause-kept : goal.returns-clause-kept
returns-clause-kept g c = grind (arith, common_steps)

pub returns-clause-failed : goal.returns-clause-failed
returns-clause-failed g c = grind (arith, common_steps)

pub returns-in_err-make_room : goal.returns-in_err-make_room
returns-in_err-make_room g c = record { failed = grind (arith, common_steps); kept = grind (arith, common_steps); prints = grind (arith, common_steps); unfailed_writes = grind (arith, common_steps) }

pub returns-then-is_err : goal.returns-then-is_err
returns-then-is_err g c = record { failed = grind (arith, common_steps); kept = grind (arith, common_steps); prints = grind (arith, common_steps); unfailed_writes = grind (arith, common_steps) }
