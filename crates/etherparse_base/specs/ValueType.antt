-- The values that a header has room for: their order, and their names.
use Rattle.std.specs.Prelude.{ℕ, List, codes}
use Rattle.etherparse_base.specs.declared.err.value_type.ValueType.{ValueType}
use Rattle.etherparse_base.specs.declared.err.value_type.ValueType.TheVariants as value

-- each value's index in the order of the values, and its name in the text of an error
abbrev pub row : ValueType → ℕ × List ℕ
row value.VlanId = (0, codes "VLAN ID")
row value.VlanPcp = (1, codes "VLAN PCP (Priority Code Point)")
row value.MacsecAn = (2, codes "MACsec AN (Association Number)")
row value.MacsecShortLen = (3, codes "MACsec SL (Short Length)")
row value.IpFragmentOffset = (4, codes "IP Fragment Offset")
row value.IpDscp = (5, codes "IPv4 DSCP (Differentiated Services Code Point)")
row value.IpEcn = (6, codes "IPv4 ECN (Explicit Congestion Notification)")
row value.Ipv6FlowLabel = (7, codes "IPv6 Flow Label")
row value.Ipv4PayloadLength = (8, codes "IPv4 Header 'Payload Length' (sets 'Total Length')")
row value.Ipv6PayloadLength = (9, codes "IPv6 Header 'Payload Length'")
row value.UdpPayloadLengthIpv4 = (10, codes "UDP Payload Length (in IPv4 checksum calculation)")
row value.UdpPayloadLengthIpv6 = (11, codes "UDP Payload Length (in IPv6 checksum calculation)")
row value.TcpPayloadLengthIpv4 = (12, codes "TCP Payload Length (in IPv4 checksum calculation)")
row value.TcpPayloadLengthIpv6 = (13, codes "TCP Payload Length (in IPv6 checksum calculation)")
row value.Icmpv6PayloadLength = (14, codes "ICMPv6 Payload Length")
row value.LinuxSllType = (15, codes "Linux Cooked Capture v1 (SLL)")

-- the columns of the table
abbrev pub value_type_index : ValueType → ℕ
value_type_index v = (row v).0

abbrev pub value_type_text : ValueType → List ℕ
value_type_text v = (row v).1
