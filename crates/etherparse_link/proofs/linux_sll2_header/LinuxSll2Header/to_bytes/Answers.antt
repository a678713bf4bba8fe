use Rattle.std.proofs.Common.{◌≡◌, ◌∙◌, [], append-nil, refl, rules, subst, sym}
use Rattle.etherparse.proofs.Layouts.{written}
use Rattle.etherparse.specs.Bytes.{IsBytes}
use Rattle.etherparse_link.proofs.LinuxSll2Layout.{linux_sll2_fields, spelled, spells}
use Rattle.etherparse_link.proofs.linux_sll2_header.LinuxSll2Header.to_bytes.Goals as goal

pub returns : goal.returns
returns c =
    let h = c.args.self.now in
    let p = c.joined.result in
    let bytes = c.joined.ensures in
    let e : p ≡ written (linux_sll2_fields h) [] =
    bytes.parts ∙ rw (c.front.ensures.parts, append-nil) refl in
    let are_bytes = subst IsBytes (sym bytes.parts) bytes.are_bytes in
    let layout = spells h p (search (rules, c.front.ensures)) are_bytes e in
    record {
      layout = layout.0;
      reserved = layout.1;
      only = λ bytes l zero. spelled h bytes l zero ∙ sym e;
      read_again = λ rest. record { front = p; whole = refl; layout = layout.0 };
    }
