use Rattle.std.proofs.Common.{◌≡◌, ◌∙◌, ap, length, length-take-le, subst, sym, take}
use Rattle.etherparse.proofs.Fronts.{begins_with_front, read_once}
use Rattle.etherparse_link.proofs.ArpLayout.{tells_headers}
use Rattle.etherparse_link.specs.ArpPacket.{IsArpLayout, RefusesArp}
use Rattle.etherparse_link.specs.ArpPacketSlice.{arp_len_of}
use Rattle.etherparse_link.proofs.arp_packet.ArpPacket.from_slice.Goals as goal

pub returns : goal.returns
returns c =
    let s = c.args.slice.now in
    let v = c.in_ok-view.ensures.views in
    let len : length c.slice.result.now ≡ arp_len_of s =
    ap length (c.slice.ensures.value ∙ v.cut) ∙ length-take-le (arp_len_of s) s v.enough in
    let same = v.cut ∙ ap (λ k. take k s) (sym len) in
    let layout = subst (IsArpLayout c.to_packet.result) same c.to_packet.ensures.layout in
    let begins = begins_with_front IsArpLayout _ _ s layout in
    let once = read_once IsArpLayout RefusesArp tells_headers s in
    record { reads = begins; only = λ other o. once other _ o begins }
