-- The names that expressions are made of, and what each says.
use Rattle.std.specs.Prelude.{ℕ, Option, Some, None, List, [], ◌∷◌, ◌++◌, codes, map}
use Rattle.std.specs.Prelude.{if◌then◌else◌}
use Rattle.std.specs.Option.{option_or}
use Rattle.std.specs.Str.{bytes_eq}
use Rattle.packet_filter.specs.declared.expression.Network.TheVariants as network
use Rattle.packet_filter.specs.declared.expression.Operator.TheVariants as operator
use Rattle.packet_filter.specs.declared.expression.Relation.TheVariants as relation
use Rattle.packet_filter.specs.declared.expression.Transport.TheVariants as transport
use Rattle.packet_filter.specs.declared.expression.Version.TheVariants as version
use Rattle.packet_filter.specs.declared.token.Token.{Token}
use Rattle.packet_filter.specs.declared.token.Token.TheVariants as token

-- a word, and what it says
abbrev pub Name : Type 0
Name = List ℕ × Token

-- what a word says that is one of these names
abbrev pub token_in : List Name → List ℕ → Option Token
token_in [] word = None
token_in (name ∷ names) word =
    if bytes_eq word name.0 then Some name.1 else token_in names word

-- words that join expressions, brackets, and what numbers are compared by
abbrev pub operators : List Name
operators =
    (codes "not", token.Not) ∷
    (codes "!", token.Not) ∷
    (codes "and", token.Operator operator.And) ∷
    (codes "&&", token.Operator operator.And) ∷
    (codes "or", token.Operator operator.Or) ∷
    (codes "||", token.Operator operator.Or) ∷
    (codes "(", token.Open) ∷
    (codes ")", token.Close) ∷
    (codes "[", token.OpenBracket) ∷
    (codes "]", token.CloseBracket) ∷
    (codes "&", token.BitAnd) ∷
    (codes "|", token.BitOr) ∷
    (codes "=", token.Relation relation.Equal) ∷
    (codes "==", token.Relation relation.Equal) ∷
    (codes "!=", token.Relation relation.NotEqual) ∷
    (codes "<", token.Relation relation.Less) ∷
    (codes "<=", token.Relation relation.LessOrEqual) ∷
    (codes ">", token.Relation relation.Greater) ∷
    (codes ">=", token.Relation relation.GreaterOrEqual) ∷ []

-- protocols that IP carries, or with addresses; the numbers are IANA's (Assigned Internet Protocol
-- Numbers), and carp has vrrp's
abbrev pub protocols : List Name
protocols =
    (codes "ip", token.Network (network.Ip version.Ipv4)) ∷
    (codes "ip6", token.Network (network.Ip version.Ipv6)) ∷
    (codes "arp", token.Network network.Arp) ∷
    (codes "rarp", token.Network network.Rarp) ∷
    (codes "tcp", token.Transport transport.Tcp) ∷
    (codes "udp", token.Transport transport.Udp) ∷
    (codes "sctp", token.Transport transport.Sctp) ∷
    (codes "icmp", token.Protocol (Some version.Ipv4) 1) ∷
    (codes "igmp", token.Protocol (Some version.Ipv4) 2) ∷
    (codes "igrp", token.Protocol (Some version.Ipv4) 9) ∷
    (codes "vrrp", token.Protocol (Some version.Ipv4) 112) ∷
    (codes "carp", token.Protocol (Some version.Ipv4) 112) ∷
    (codes "icmp6", token.Protocol (Some version.Ipv6) 58) ∷
    (codes "esp", token.Protocol None 50) ∷
    (codes "ah", token.Protocol None 51) ∷
    (codes "pim", token.Protocol None 103) ∷ []

-- protocols with an EtherType of their own (IANA, IEEE 802 Numbers)
abbrev pub ether_types : List Name
ether_types =
    (codes "mopdl", token.EtherType 0x6001) ∷
    (codes "moprc", token.EtherType 0x6002) ∷
    (codes "decnet", token.EtherType 0x6003) ∷
    (codes "lat", token.EtherType 0x6004) ∷
    (codes "sca", token.EtherType 0x6007) ∷ []

-- what says which part of a packet is meant, and what is asked of it
abbrev pub qualifiers : List Name
qualifiers =
    (codes "ether", token.Ether) ∷
    (codes "src", token.Source) ∷
    (codes "dst", token.Destination) ∷
    (codes "host", token.Host) ∷
    (codes "net", token.Net) ∷
    (codes "mask", token.Mask) ∷
    (codes "port", token.Port) ∷
    (codes "portrange", token.PortRange) ∷
    (codes "proto", token.Proto) ∷
    (codes "broadcast", token.Broadcast) ∷
    (codes "multicast", token.Multicast) ∷
    (codes "len", token.Length) ∷
    (codes "vlan", token.Vlan) ∷
    (codes "less", token.Less) ∷
    (codes "greater", token.Greater) ∷
    (codes "fragment", token.Fragment) ∷
    (codes "first", token.First) ∷
    (codes "checksum", token.Checksum) ∷
    (codes "wrong", token.Wrong) ∷ []

-- words of pcap-filter(7) that this language does not have
abbrev pub foreign : List (List ℕ)
foreign =
    codes "\\aarp" ∷ codes "\\atalk" ∷ codes "\\ipx" ∷ codes "\\iso" ∷ codes "\\netbeui" ∷
    codes "\\stp" ∷ codes "aarp" ∷ codes "atalk" ∷ codes "clnp" ∷ codes "esis" ∷ codes "isis" ∷
    codes "ipx" ∷ codes "iso" ∷ codes "netbeui" ∷ codes "stp" ∷ codes "csnp" ∷ codes "iih" ∷
    codes "l1" ∷ codes "l2" ∷ codes "lsp" ∷ codes "psnp" ∷ codes "snp" ∷ codes "fddi" ∷
    codes "link" ∷ codes "ppp" ∷ codes "radio" ∷ codes "slip" ∷ codes "tr" ∷ codes "wlan" ∷
    codes "addr1" ∷ codes "addr2" ∷ codes "addr3" ∷ codes "addr4" ∷ codes "dir" ∷ codes "ra" ∷
    codes "subtype" ∷ codes "ta" ∷ codes "type" ∷ codes "llc" ∷ codes "mpls" ∷ codes "pppoed" ∷
    codes "pppoes" ∷ codes "geneve" ∷ codes "gateway" ∷ codes "protochain" ∷ codes "inbound" ∷
    codes "outbound" ∷ codes "ifname" ∷ codes "on" ∷ codes "action" ∷ codes "reason" ∷
    codes "rnr" ∷ codes "rset" ∷ codes "rulenum" ∷ codes "ruleset" ∷ codes "srnr" ∷
    codes "subrulenum" ∷ codes "bcc" ∷ codes "connectmsg" ∷ codes "ilmic" ∷ codes "lane" ∷
    codes "metac" ∷ codes "metaconnect" ∷ codes "oam" ∷ codes "oamf4" ∷ codes "oamf4e" ∷
    codes "oamf4s" ∷ codes "sc" ∷ codes "vci" ∷ codes "vpi" ∷ []

-- what a name says, each of which stands in one of these tables, once
unfoldable pub name_of : List ℕ → Option Token
name_of word =
    option_or (token_in (operators ++ (protocols ++ (ether_types ++ qualifiers))) word)
    (token_in (map (λ name. (name, token.Foreign)) foreign) word)
