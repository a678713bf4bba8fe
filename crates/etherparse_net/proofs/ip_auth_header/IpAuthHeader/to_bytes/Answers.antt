use Rattle.std.proofs.Common.{◌≡◌, ◌∙◌, sym, refl, subst}
use Rattle.etherparse.specs.Bytes.{IsBytes}
use Rattle.etherparse.proofs.Layouts.{written}
use Rattle.etherparse_net.proofs.ExtensionHeaders.{auth_cleared_layout, auth_fields}
use Rattle.etherparse_net.proofs.ExtensionHeaders.{auth_spelled, auth_spells}
use Rattle.etherparse_net.proofs.ip_auth_header.IpAuthHeader.to_bytes.Goals as goal

pub returns : goal.returns
returns c =
    let h = c.args.self.now in
    let p = c.front_and_rest.result.items in
    let bytes = c.front_and_rest.ensures in
    let e : p ≡ written (auth_fields h) h.icv = bytes.parts
    ∙ rw (c.front.ensures.value, c.as_slice.ensures.value) refl in
    let layout = auth_spells h p c.front.ensures.spi c.front.ensures.sequence_number
    c.front.ensures.icv_len (subst IsBytes (sym bytes.parts) bytes.are_bytes) e in
    record {
      layout = layout;
      only = λ bytes other. auth_spelled h bytes other ∙ sym e;
      read_again = λ rest. record { front = p; whole = refl; layout = layout.layout };
      cleared = λ bytes other. sym (auth_spelled h _ (auth_cleared_layout h bytes other) ∙ sym e);
    }
