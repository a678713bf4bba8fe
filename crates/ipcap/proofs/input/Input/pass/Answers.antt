use Rattle.std.proofs.Common.{◌≡◌, ◌-◌, ◌+◌, ◌++◌, [], take, drop, ap, sym, ◌∙◌, arith, append-nil, length-drop, length-take-le, refl, take-append-drop, take_at}
use Rattle.std.proofs.KnownBytes.{Consumes-nil}
use Rattle.std.proofs.lemmas.List.{drop-take}
use Rattle.ipcap.specs.Streams.{unread}
use Rattle.ipcap.proofs.input.Input.pass.Goals as goal

pub returns : goal.returns
returns g c =
    let w = c.args.self.now in
    let left = w.len - c.args.len in
    let whole : c.args.len + left ≡ w.len = omega (arith, c.requires, length-take-le w.len w.bytes (omega arith)) in
    let moved = length-take-le left (drop c.args.len w.bytes) (omega (arith, length-drop c.args.len w.bytes)) in
    let rest = ap (take left) c.copy_within.ensures.after ∙ take_at (take left (drop c.args.len w.bytes)) _ left moved ∙ sym (drop-take c.args.len left w.bytes)
    ∙ ap (λ k. drop c.args.len (take k w.bytes)) whole in
    record {
      takes = record {
        got = [];
        reads = record { gave = Consumes-nil _; count = omega arith };
        takes = append-nil (unread w) ∙ sym (take-append-drop c.args.len (unread w)) ∙ ap (λ r. take c.args.len (unread w) ++ r) (sym rest);
      };
      rest = rest;
      source = refl;
    }
