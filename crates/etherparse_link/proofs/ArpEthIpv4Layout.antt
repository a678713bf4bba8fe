-- The layout of an ARP packet of Ethernet and IPv4: a packet has one list of bytes, which is an ARP
-- packet by its own lengths.
use Rattle.std.proofs.Common.{ℕ, ◌≡◌, List, [], ◌∷◌, ◌++◌, Ok, length, length-append, ap, ◌∙◌}
use Rattle.std.proofs.Common.{arith, refl, rules, sym, drop_of_length-le, slice_index, take}
use Rattle.std.proofs.Common.{take_at}
use Rattle.std.specs.List.{AllByRecursion}
use Rattle.std.proofs.Math.ListN.{get_or-append}
use Rattle.etherparse.proofs.Layouts.{Field, Fits, array, length-written, read_back, told, u8, u16}
use Rattle.etherparse.proofs.Layouts.{written}
use Rattle.etherparse.specs.Bytes.{IsBytes}
use Rattle.etherparse_link.specs.ArpEthIpv4Packet.{IsArpEthIpv4Layout}
use Rattle.etherparse_link.specs.ArpPacketSlice.{ViewsArp, arp_len_of}
use Rattle.etherparse_link.specs.declared.arp_eth_ipv4_packet.ArpEthIpv4Packet.{ArpEthIpv4Packet}

-- the fields of a packet, in their order
abbrev pub arp_eth_ipv4_fields : ArpEthIpv4Packet → List Field
arp_eth_ipv4_fields h = u16 1 ∷ u16 0x0800 ∷ u8 6 ∷ u8 4 ∷ u16 h.operation
    ∷ array 6 h.sender_mac ∷ array 4 h.sender_ipv4 ∷ array 6 h.target_mac ∷ array 4 h.target_ipv4
    ∷ []

pub spelled : (h : ArpEthIpv4Packet) (p : List ℕ) → IsArpEthIpv4Layout h p
    → p ≡ written (arp_eth_ipv4_fields h) []
spelled h p l =
    let nothing_after = drop_of_length-le p {i = 28} (omega (arith, l.len)) in
    told p 0 (arp_eth_ipv4_fields h) [] l.are_bytes (omega (arith, l.len))
    (search (rules, l, nothing_after))

pub spells : (h : ArpEthIpv4Packet) (p : List ℕ) → AllByRecursion Fits (arp_eth_ipv4_fields h)
    → IsBytes p → p ≡ written (arp_eth_ipv4_fields h) [] → IsArpEthIpv4Layout h p
spells h p fit are_bytes e =
    let fields = read_back p 0 (arp_eth_ipv4_fields h) [] fit e in
    let len = ap length e ∙ length-written (arp_eth_ipv4_fields h) [] fit in
    search (rules, fields, len)

-- with anything after it, it is the ARP packet that is seen
pub viewed : (h : ArpEthIpv4Packet) (p rest : List ℕ) → IsArpEthIpv4Layout h p
    → ViewsArp (p ++ rest) (Ok p)
viewed h p rest l =
    let hardware : slice_index (p ++ rest) 4 ≡ 6 =
    get_or-append p rest 0 4 (omega (arith, l.len)) ∙ l.hw_addr_size in
    let protocol : slice_index (p ++ rest) 5 ≡ 4 =
    get_or-append p rest 0 5 (omega (arith, l.len)) ∙ l.proto_addr_size in
    let len : arp_len_of (p ++ rest) ≡ 28 = rw (hardware, protocol) refl in
    let cut : p ≡ take (arp_len_of (p ++ rest)) (p ++ rest) =
    rw len (sym (take_at p rest 28 l.len)) in
    record { enough = omega (arith, len, l.len, length-append p rest); cut = cut }
