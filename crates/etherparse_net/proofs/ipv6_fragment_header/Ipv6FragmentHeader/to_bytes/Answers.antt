use Rattle.std.proofs.Common.{◌∙◌, sym, refl}
use Rattle.etherparse_net.proofs.ExtensionHeaders.{fragment_cleared_layout, fragment_spelled}
use Rattle.etherparse_net.proofs.ExtensionHeaders.{fragment_spells}
use Rattle.etherparse_net.proofs.ipv6_fragment_header.Ipv6FragmentHeader.to_bytes.Goals as goal

pub returns : goal.returns
returns c =
    let h = c.args.self.now in
    let p = c.fields.result in
    let e = c.fields.ensures.value in
    let layout = fragment_spells h p c.fields.ensures.fragment_offset
    c.fields.ensures.identification c.fields.ensures.are_bytes e in
    record {
      layout = layout;
      only = λ bytes other. fragment_spelled h bytes other ∙ sym e;
      read_again = λ rest. record { front = p; whole = refl; layout = layout.layout };
      cleared = λ bytes other.
          sym (fragment_spelled h _ (fragment_cleared_layout h bytes other) ∙ sym e);
    }
