use Rattle.std.proofs.Common.{◌≡◌, ◌∙◌, [], refl, rules, subst, sym}
use Rattle.etherparse.proofs.Layouts.{written}
use Rattle.etherparse.specs.Bytes.{IsBytes}
use Rattle.etherparse_link.proofs.LinuxSllLayout.{linux_sll_fields, spelled, spells}
use Rattle.etherparse_link.proofs.linux_sll_header.LinuxSllHeader.to_bytes.Goals as goal

pub returns : goal.returns
returns c =
    let h = c.args.self.now in
    let p = c.joined.result in
    let bytes = c.joined.ensures in
    let e : p ≡ written (linux_sll_fields h) [] =
    bytes.parts ∙ rw (c.front.ensures.parts, c.ether_type_bytes.ensures.value) refl in
    let are_bytes = subst IsBytes (sym bytes.parts) bytes.are_bytes in
    let protocol_fits = c.ether_type_bytes.ensures.fits in
    let layout = spells h p (search (rules, c.front.ensures, protocol_fits)) are_bytes e in
    record {
      layout = layout;
      only = λ bytes l. spelled h bytes l ∙ sym e;
      read_again = λ rest. record { front = p; whole = refl; layout = layout };
    }
