use Rattle.std.proofs.Common.{◌++◌, OnErr, OnOk, codes, subst}
use Rattle.ipcap.proofs.Runs.{on_err}
use Rattle.ipcap.proofs.Said.{front_of_pieces, piece_begun, pieces_printed}
use Rattle.ipcap.specs.Streams.{Prints, PrintsFront}
use Rattle.ipcap.proofs.output.Output.end_with.Goals as goal

pub returns-in_err-copy-2-clause-front : goal.returns-in_err-copy-2-clause-front
returns-in_err-copy-2-clause-front g c = on_err c.from_residual-in_err-copy-2.result (piece_begun g.W.Sink.contents c.args.self.now c.copy.new.self c.copy-2.new.self c.copy-2.new.self (codes ": ") c.args.reason.now c.in_ok-copy.ensures.prints _ c.in_err-copy-2.ensures.kept)

pub returns-clause-prints : goal.returns-clause-prints
returns-clause-prints g c = subst (λ s. OnOk c.end_line.result (Prints g.W.Sink.contents c.args.self.now c.end_line.new.self (codes ": " ++ (s ++ codes "\n")))) c.as_bytes.ensures.value
    (pieces_printed g.W.Sink.contents c.args.self.now c.copy.new.self c.copy-2.new.self c.end_line.new.self (codes ": ") c.as_bytes.result.now c.in_ok-copy.ensures.prints c.end_line.result (codes "\n") c.in_ok-copy-2.ensures.prints c.end_line.ensures.prints)

pub returns-clause-front : goal.returns-clause-front
returns-clause-front g c = subst (λ s. OnErr c.end_line.result (PrintsFront g.W.Sink.contents c.args.self.now c.end_line.new.self (codes ": " ++ (s ++ codes "\n")))) c.as_bytes.ensures.value
    (front_of_pieces g.W.Sink.contents c.args.self.now c.copy.new.self c.copy-2.new.self c.end_line.new.self (codes ": ") c.as_bytes.result.now c.in_ok-copy.ensures.prints c.end_line.result (codes "\n") c.in_ok-copy-2.ensures.prints c.end_line.ensures.front)
