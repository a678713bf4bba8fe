use Rattle.std.proofs.Common.{codes}
use Rattle.ipcap.proofs.Runs.{on_err}
use Rattle.ipcap.proofs.Said.{front_of_pieces, piece_begun, pieces_printed}
use Rattle.ipcap.proofs.output.Output.print_fault.Goals as goal

pub returns-in_err-copy-2-clause-front : goal.returns-in_err-copy-2-clause-front
returns-in_err-copy-2-clause-front g c = on_err c.from_residual-in_err-copy-2.result (piece_begun g.W.Sink.contents c.args.self.now c.copy.new.self c.copy-2.new.self c.copy-2.new.self (codes "error: ") c.args.what.now c.in_ok-copy.ensures.prints _ c.in_err-copy-2.ensures.kept)

pub returns-clause-prints : goal.returns-clause-prints
returns-clause-prints g c = pieces_printed g.W.Sink.contents c.args.self.now c.copy.new.self c.copy-2.new.self c.end_fault.new.self (codes "error: ") c.args.what.now c.in_ok-copy.ensures.prints c.end_fault.result _ c.in_ok-copy-2.ensures.prints c.end_fault.ensures.prints

pub returns-clause-front : goal.returns-clause-front
returns-clause-front g c = front_of_pieces g.W.Sink.contents c.args.self.now c.copy.new.self c.copy-2.new.self c.end_fault.new.self (codes "error: ") c.args.what.now c.in_ok-copy.ensures.prints c.end_fault.result _ c.in_ok-copy-2.ensures.prints c.end_fault.ensures.front
