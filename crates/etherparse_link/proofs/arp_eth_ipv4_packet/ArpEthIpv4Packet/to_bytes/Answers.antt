use Rattle.std.proofs.Common.{◌≡◌, ◌∙◌, [], append-nil, refl, rules, subst, sym}
use Rattle.etherparse.proofs.Layouts.{written}
use Rattle.etherparse.specs.Bytes.{IsBytes}
use Rattle.etherparse_link.proofs.ArpEthIpv4Layout.{arp_eth_ipv4_fields, spelled, spells, viewed}
use Rattle.etherparse_link.proofs.arp_eth_ipv4_packet.ArpEthIpv4Packet.to_bytes.Goals as goal

pub returns : goal.returns
returns c =
    let h = c.args.self.now in
    let p = c.joined.result in
    let bytes = c.joined.ensures in
    let e : p ≡ written (arp_eth_ipv4_fields h) [] =
    bytes.parts ∙ rw (c.front.ensures.parts, append-nil) refl in
    let are_bytes = subst IsBytes (sym bytes.parts) bytes.are_bytes in
    let layout = spells h p (search (rules, c.front.ensures)) are_bytes e in
    record {
      layout = layout;
      only = λ bytes l. spelled h bytes l ∙ sym e;
      viewed_again = λ rest. viewed h p rest layout;
    }
