-- The errors of ARP packets: their texts, and what of them is hashed.
use Rattle.std.specs.Prelude.{ℕ, List, ◌++◌, codes}
use Rattle.std.specs.Hash as fed
use Rattle.std.specs.Fmt.{decimal}
use Rattle.etherparse_link.specs.declared.err.arp.ArpEthIpv4FromError.{ArpEthIpv4FromError}
use Rattle.etherparse_link.specs.declared.err.arp.ArpEthIpv4FromError.TheVariants as error
use Rattle.etherparse_link.specs.declared.err.arp.ArpHwAddrError.{ArpHwAddrError}
use Rattle.etherparse_link.specs.declared.err.arp.ArpHwAddrError.TheVariants as hardware
use Rattle.etherparse_link.specs.declared.err.arp.ArpNewError.{ArpNewError}
use Rattle.etherparse_link.specs.declared.err.arp.ArpNewError.TheVariants as new
use Rattle.etherparse_link.specs.declared.err.arp.ArpProtoAddrError.{ArpProtoAddrError}
use Rattle.etherparse_link.specs.declared.err.arp.ArpProtoAddrError.TheVariants as protocol

-- the text of an ARP packet that is not of Ethernet and IPv4
abbrev pub arp_eth_ipv4_from_error_text : ArpEthIpv4FromError → List ℕ
arp_eth_ipv4_from_error_text (error.NonMatchingHwType id) =
    codes "ARP Error: The hardware type is '" ++ (decimal id
    ++ codes "', and not '1' of Ethernet.")
arp_eth_ipv4_from_error_text (error.NonMatchingProtocolType ether_type) =
    codes "ARP Error: The protocol type is '" ++ (decimal ether_type
    ++ codes "', and not '2048' of IPv4.")
arp_eth_ipv4_from_error_text (error.NonMatchingHwAddrSize size) =
    codes "ARP Error: The hardware addresses have '" ++ (decimal size
    ++ codes "' byte(s), and not '6'.")
arp_eth_ipv4_from_error_text (error.NonMatchingProtoAddrSize size) =
    codes "ARP Error: The protocol addresses have '" ++ (decimal size
    ++ codes "' byte(s), and not '4'.")

-- the texts of addresses that cannot stand in one packet
abbrev pub arp_hw_addr_error_text : ArpHwAddrError → List ℕ
arp_hw_addr_error_text (hardware.LenNonMatching sender target) =
    codes "ARP Error: The sender hardware address has '" ++ (decimal sender
    ++ (codes "' byte(s), the target hardware address '" ++ (decimal target ++ codes "'.")))
arp_hw_addr_error_text (hardware.LenTooBig len) =
    codes "ARP Error: The hardware addresses have '" ++ (decimal len
    ++ codes "' byte(s) (maximum allowed value is '255').")

abbrev pub arp_proto_addr_error_text : ArpProtoAddrError → List ℕ
arp_proto_addr_error_text (protocol.LenNonMatching sender target) =
    codes "ARP Error: The sender protocol address has '" ++ (decimal sender
    ++ (codes "' byte(s), the target protocol address '" ++ (decimal target ++ codes "'.")))
arp_proto_addr_error_text (protocol.LenTooBig len) =
    codes "ARP Error: The protocol addresses have '" ++ (decimal len
    ++ codes "' byte(s) (maximum allowed value is '255').")

abbrev pub arp_new_error_text : ArpNewError → List ℕ
arp_new_error_text (new.HwAddr e) = arp_hw_addr_error_text e
arp_new_error_text (new.ProtoAddr e) = arp_proto_addr_error_text e

-- What an error holds is hashed after the number of what is wrong.
abbrev pub arp_eth_ipv4_from_error_writes : ArpEthIpv4FromError → List (List ℕ)
arp_eth_ipv4_from_error_writes (error.NonMatchingHwType id) = fed.usize 0 ++ fed.u16 id
arp_eth_ipv4_from_error_writes (error.NonMatchingProtocolType ether_type) =
    fed.usize 1 ++ fed.u16 ether_type
arp_eth_ipv4_from_error_writes (error.NonMatchingHwAddrSize size) = fed.usize 2 ++ fed.u8 size
arp_eth_ipv4_from_error_writes (error.NonMatchingProtoAddrSize size) = fed.usize 3 ++ fed.u8 size

abbrev pub arp_hw_addr_error_writes : ArpHwAddrError → List (List ℕ)
arp_hw_addr_error_writes (hardware.LenNonMatching sender target) =
    fed.usize 0 ++ (fed.usize sender ++ fed.usize target)
arp_hw_addr_error_writes (hardware.LenTooBig len) = fed.usize 1 ++ fed.usize len

abbrev pub arp_proto_addr_error_writes : ArpProtoAddrError → List (List ℕ)
arp_proto_addr_error_writes (protocol.LenNonMatching sender target) =
    fed.usize 0 ++ (fed.usize sender ++ fed.usize target)
arp_proto_addr_error_writes (protocol.LenTooBig len) = fed.usize 1 ++ fed.usize len

abbrev pub arp_new_error_writes : ArpNewError → List (List ℕ)
arp_new_error_writes (new.HwAddr e) = fed.usize 0 ++ arp_hw_addr_error_writes e
arp_new_error_writes (new.ProtoAddr e) = fed.usize 1 ++ arp_proto_addr_error_writes e
