use Rattle.std.proofs.Common.{◌≡◌, ◌++◌, ◌∙◌, [], append-nil, length, refl, rules, subst, sym}
use Rattle.etherparse.proofs.Layouts.{written}
use Rattle.etherparse.specs.Bytes.{IsBytes}
use Rattle.etherparse_link.proofs.ArpLayout.{append_is_bytes, arp_fields, hw_size, protocol_size}
use Rattle.etherparse_link.proofs.ArpLayout.{spelled, spells}
use Rattle.etherparse_link.proofs.arp_packet.ArpPacket.to_bytes.Goals as goal

pub returns : goal.returns
returns c =
    let h = c.args.self.now in
    let m = length h.hw_addrs.sender in
    let n = length h.protocol_addrs.sender in
    let hw = c.sender.ensures.pair in
    let protocol = c.sender-2.ensures.pair in
    let p = c.joined.result.items in
    let parts : p ≡ c.front.result ++ (h.hw_addrs.sender ++ (h.protocol_addrs.sender
    ++ (h.hw_addrs.target ++ h.protocol_addrs.target))) =
    c.joined.ensures.parts ∙ rw (c.sender.ensures.value, c.sender-2.ensures.value)
    (rw (c.target.ensures.value, c.target-2.ensures.value) refl) in
    let e : p ≡ written (arp_fields m n h) [] =
    parts ∙ rw (c.front.ensures.parts, append-nil) refl in
    let targets = append_is_bytes _ _ hw.target_bytes protocol.target_bytes in
    let last_three = append_is_bytes _ _ protocol.sender_bytes targets in
    let addresses = append_is_bytes _ _ hw.sender_bytes last_three in
    let all = append_is_bytes _ _ c.front.ensures.are_bytes addresses in
    let are_bytes : IsBytes p = subst IsBytes (sym parts) all in
    let front = c.front.ensures in
    let layout = spells h p m n (search (rules, front, hw.len, protocol.len)) are_bytes e in
    record {
      layout = layout;
      only = λ bytes l. rw (hw_size h bytes l, protocol_size h bytes l) at (spelled h bytes l)
          ∙ sym e;
      read_again = λ rest. record { front = p; whole = refl; layout = layout };
    }
