use Rattle.std.proofs.Common.{ℕ, Ok, List, [], ap, arith, length, refl, subst, sym, ◌≡◌, ◌++◌, ◌∙◌, append-nil}
use Rattle.etherparse_base.specs.Bytes.{IsBytes}
use Rattle.etherparse.proofs.Ipv6Layout.{ipv6_fields, spelled, spells}
use Rattle.etherparse.proofs.Ipv6Reading.{is_reading_of}
use Rattle.etherparse.proofs.Layouts.{written}
use Rattle.etherparse.specs.Ipv6Header.{IsIpv6Layout}
use Rattle.etherparse.proofs.net.ipv6_header.Ipv6Header.to_bytes.Goals as goal

pub returns : goal.returns
returns c =
    let h = c.args.self.now in
    let p = c.front_and_addresses.result in
    let bytes = c.front_and_addresses.ensures in
    let source = ap (λ h. length h.source) c.self.view_is in
    let destination = ap (λ h. length h.destination) c.self.view_is in
    let e : p ≡ written (ipv6_fields h) [] =
    bytes.parts ∙ ap (λ h. c.front.result ++ (h.source ++ h.destination)) c.self.view_is ∙ rw (c.front.ensures.value, append-nil) refl in
    let layout = spells h p c.front.ensures.traffic_class c.front.ensures.flow_label (omega (arith, c.front.ensures)) (subst IsBytes (sym bytes.parts) bytes.are_bytes) e in
    let only = λ (bytes : List ℕ) (other : IsIpv6Layout h bytes). spelled h bytes other ∙ sym e in
    record {
      layout = layout;
      only = only;
      read_again = λ rest. is_reading_of (p ++ rest) (Ok (h, rest)) (record { front = p; whole = refl; layout = layout });
      viewed_again = λ rest. record { header = h; rest = rest; whole = refl; layout = layout };
      read_alone = is_reading_of p (Ok (h, [])) (record { front = p; whole = sym (append-nil p); layout = layout });
      viewed_alone = record { header = h; rest = []; whole = sym (append-nil p); layout = layout };
    }
