-- An ARP packet of Ethernet and IPv4 (RFC 826).
use Rattle.std.specs.Prelude.{ℕ, ◌≡◌, List, length, Result, Ok, Err, slice_index, slice_range}
use Rattle.etherparse.specs.Bytes.{IsBytes}
use Rattle.etherparse_link.specs.Bytes.{number_at}
use Rattle.etherparse_link.specs.declared.arp_eth_ipv4_packet.ArpEthIpv4Packet.{ArpEthIpv4Packet}
use Rattle.etherparse_link.specs.declared.err.arp.ArpEthIpv4FromError.{ArpEthIpv4FromError}
use Rattle.etherparse_link.specs.declared.err.arp.ArpEthIpv4FromError.TheVariants as error

-- what an ARP packet of Ethernet and IPv4 has: the hardware type of Ethernet, the EtherType of
-- IPv4, and the lengths of their addresses
abbrev pub IsEthernet : List ℕ → Type 0
IsEthernet bytes = number_at 0 bytes ≡ 1

abbrev pub IsOfIpv4 : List ℕ → Type 0
IsOfIpv4 bytes = number_at 2 bytes ≡ 0x0800

abbrev pub HasMacLength : List ℕ → Type 0
HasMacLength bytes = slice_index bytes 4 ≡ 6

abbrev pub HasIpv4Length : List ℕ → Type 0
HasIpv4Length bytes = slice_index bytes 5 ≡ 4

-- the 28 bytes of a packet
pub record IsArpEthIpv4Layout (packet : ArpEthIpv4Packet) (bytes : List ℕ) : Type 0 where
  pub len : length bytes ≡ 28
  pub are_bytes : IsBytes bytes
  pub hw_addr_type : IsEthernet bytes
  pub proto_addr_type : IsOfIpv4 bytes
  pub hw_addr_size : HasMacLength bytes
  pub proto_addr_size : HasIpv4Length bytes
  pub operation : number_at 6 bytes ≡ packet.operation
  pub sender_mac : slice_range bytes 8 14 ≡ packet.sender_mac
  pub sender_ipv4 : slice_range bytes 14 18 ≡ packet.sender_ipv4
  pub target_mac : slice_range bytes 18 24 ≡ packet.target_mac
  pub target_ipv4 : slice_range bytes 24 28 ≡ packet.target_ipv4

-- the ARP packet is this one of Ethernet and IPv4; or it is none: it is of other hardware; or else
-- of another protocol; or else its hardware addresses have another length; or else its protocol
-- addresses
abbrev pub TakesEthIpv4 : List ℕ → Result ArpEthIpv4Packet ArpEthIpv4FromError → Type 0
TakesEthIpv4 bytes (Ok packet) = IsArpEthIpv4Layout packet bytes
TakesEthIpv4 bytes (Err (error.NonMatchingHwType id)) =
    (id ≡ number_at 0 bytes) × (¬ IsEthernet bytes)
TakesEthIpv4 bytes (Err (error.NonMatchingProtocolType ether_type)) =
    IsEthernet bytes × (ether_type ≡ number_at 2 bytes) × (¬ IsOfIpv4 bytes)
TakesEthIpv4 bytes (Err (error.NonMatchingHwAddrSize size)) = IsEthernet bytes × IsOfIpv4 bytes
    × (size ≡ slice_index bytes 4) × (¬ HasMacLength bytes)
TakesEthIpv4 bytes (Err (error.NonMatchingProtoAddrSize size)) = IsEthernet bytes
    × IsOfIpv4 bytes × HasMacLength bytes × (size ≡ slice_index bytes 5) × (¬ HasIpv4Length bytes)
