use Rattle.std.proofs.Common.{arith}
use Rattle.std.proofs.lemmas.Grind.{common_steps}
use Rattle.ipcap.proofs.output.Output.copy.Goals as goal

pub returns : goal.returns
returns g c = record { failed = grind (arith, common_steps); kept = grind (arith, common_steps); prints = grind (arith, common_steps); unfailed_writes = grind (arith, common_steps) }

pub returns-in_err-make_room : goal.returns-in_err-make_room
returns-in_err-make_room g c = record { failed = grind (arith, common_steps); kept = grind (arith, common_steps); prints = grind (arith, common_steps); unfailed_writes = grind (arith, common_steps) }
