-- Where a length came from, in words.
use Rattle.std.specs.Prelude.{ℕ, List, codes}
use Rattle.etherparse_base.specs.declared.len_source.LenSource.{LenSource}
use Rattle.etherparse_base.specs.declared.len_source.LenSource.TheVariants as source

-- what the text of a length error calls the source of the length
abbrev pub len_source_text : LenSource → List ℕ
len_source_text source.Slice = codes "slice length"
len_source_text source.MacsecShortLength =
    codes "length calculated from the MACsec header 'short length' field"
len_source_text source.Ipv4HeaderTotalLen =
    codes "length calculated from the IPv4 header 'total length' field"
len_source_text source.Ipv6HeaderPayloadLen =
    codes "length calculated from the IPv6 header 'payload length' field"
len_source_text source.UdpHeaderLen = codes "length calculated from the UDP header 'length' field"
len_source_text source.TcpHeaderLen = codes "length calculated from the TCP header 'length' field"
len_source_text source.ArpAddrLengths =
    codes "length calculated from the ARP 'hw_addr_size' & 'proto_addr_size' fields"
