-- How long an ARP packet is.
use Rattle.std.proofs.Common.{ℕ, ◌≡◌, ◌+◌, ◌-◌, List, ap, arith, drop, length, length-drop}
use Rattle.std.proofs.lemmas.List.{length-take-le}
use Rattle.etherparse_link.specs.ArpPacket.{IsArpLayout}
use Rattle.etherparse_link.specs.ArpPacketSlice.{hw_addr_size_of, proto_addr_size_of}
use Rattle.etherparse_link.specs.declared.arp_packet.ArpPacket.{ArpPacket}
use Rattle.packet_builder.specs.BuiltPacket.{arp_len}

-- as long as its addresses tell
pub arp_layout_len : (packet : ArpPacket) (bytes : List ℕ) → IsArpLayout packet bytes → length bytes ≡ arp_len packet
arp_layout_len packet bytes layout =
    let m = hw_addr_size_of bytes in
    let n = proto_addr_size_of bytes in
    let hw = length-take-le (8 + m - 8) (drop 8 bytes) (omega (arith, layout.len, length-drop 8 bytes)) in
    let protocol = length-take-le (8 + m + n - (8 + m)) (drop (8 + m) bytes) (omega (arith, layout.len, length-drop (8 + m) bytes)) in
    omega (arith, layout.len, hw, protocol, ap length layout.sender_hw_addr, ap length layout.sender_protocol_addr)
