use Rattle.std.proofs.Common.{ℕ, Err, IfErr, IfOk, MatchResult, Ok, Result, inl, inr, refl}
use Rattle.std.specs.declared.io.Error.{Error}
use Rattle.ipcap.specs.Program.{RunsAnew}
use Rattle.ipcap.proofs.program.answer.Goals as goal

both : (r : Result ℕ Error) (P : ℕ → Type 0) (Q : Error → Type 0) → IfOk r P → IfErr r Q → MatchResult r P Q
both (Ok code) P Q p q = p
both (Err e) P Q p q = q

pub returns-in-Err-open-clause-answers : goal.returns-in-Err-open-clause-answers
returns-in-Err-open-clause-answers g c = inr (
  c.in-Ok.request,
  c.in-Ok.ensures.request,
  inl (record {
    e = c.in-Err-open.e;
    opened = c.in-Err-open.ensures.opens;
    said = c.refuse.ensures.says;
    ends = c.refuse.ensures.value;
    asks = c.open.ensures.asked;
  }),
)

pub returns-in-Err-create-clause-answers : goal.returns-in-Err-create-clause-answers
returns-in-Err-create-clause-answers g c = inr (
  c.in-Ok.request,
  c.in-Ok.ensures.request,
  inr (inl (record {
    source = c.in-Ok-open.reader;
    e = c.in-Err-create.e;
    opened = c.in-Ok-open.ensures.opens;
    created = c.in-Err-create.ensures.creates;
    said = c.refuse-in-Err-create.ensures.says;
    ends = c.refuse-in-Err-create.ensures.value;
    asks = c.create.ensures.asked;
  })),
)

pub returns-clause-answers : goal.returns-clause-answers
returns-clause-answers g c = inr (
  c.in-Ok.request,
  c.in-Ok.ensures.request,
  inr (inr (record {
    source = c.in-Ok-open.reader;
    sink = c.in-Ok-create.writer;
    opened = c.in-Ok-open.ensures.opens;
    created = c.in-Ok-create.ensures.creates;
    runs = record {
      input = c.new-input.result;
      left = c.list_anew-code.new.input;
      old = c.new-output.result;
      new = c.list_anew-code.new.output;
      reads = (c.new-input.ensures.source, c.new-input.ensures.unread, c.new-input.ensures.count);
      prints = (c.new-output.ensures.sink, c.new-output.ensures.empty);
      runs = both c.list_anew-code.result (RunsAnew g.S.Reader.Source.remaining g.S.Writer.Sink.contents g.E.Sink.contents g.S.Reader.Source.has_failed g.S.Writer.Sink.has_failed g.E.Sink.has_failed g.S.Reader.Source.why_failed g.S.Writer.Sink.why_failed (g.E.Sink.is_text Error)
          c.in-Ok.request c.args.arguments.now.reassembles c.new-input.result c.list_anew-code.new.input c.new-output.result c.list_anew-code.new.output c.args.errors.now c.list_anew-code.new.errors) _ c.list_anew-code.ensures.runs c.list_anew-code.ensures.lacks;
      leaves = (refl, refl);
    };
    asks = c.create.ensures.asked;
  })),
)
