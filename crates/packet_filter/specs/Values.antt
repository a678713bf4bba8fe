-- The names of values: numbers of protocols, flags and types, and ports.
use Rattle.std.specs.Prelude.{ℕ, Option, List, [], ◌∷◌, ◌++◌, codes}
use Rattle.std.specs.Option.{option_or}
use Rattle.packet_filter.specs.Names.{Name, token_in}
use Rattle.packet_filter.specs.declared.token.Token.{Token}
use Rattle.packet_filter.specs.declared.token.Token.TheVariants as token

-- numbers of IP's payload after `proto` (IANA, Assigned Internet Protocol Numbers)
abbrev pub ip_numbers : List Name
ip_numbers =
    (codes "\\icmp", token.IpNumber 1) ∷
    (codes "\\igmp", token.IpNumber 2) ∷
    (codes "\\tcp", token.IpNumber 6) ∷
    (codes "\\igrp", token.IpNumber 9) ∷
    (codes "\\udp", token.IpNumber 17) ∷
    (codes "gre", token.IpNumber 47) ∷
    (codes "\\esp", token.IpNumber 50) ∷
    (codes "\\ah", token.IpNumber 51) ∷
    (codes "\\icmp6", token.IpNumber 58) ∷
    (codes "ipv6-icmp", token.IpNumber 58) ∷
    (codes "eigrp", token.IpNumber 88) ∷
    (codes "ospf", token.IpNumber 89) ∷
    (codes "\\pim", token.IpNumber 103) ∷
    (codes "\\vrrp", token.IpNumber 112) ∷
    (codes "\\sctp", token.IpNumber 132) ∷ []

-- EtherTypes after `ether proto` (IANA, IEEE 802 Numbers)
abbrev pub type_names : List Name
type_names =
    (codes "\\ip", token.TypeName 0x0800) ∷
    (codes "\\arp", token.TypeName 0x0806) ∷
    (codes "\\mopdl", token.TypeName 0x6001) ∷
    (codes "\\moprc", token.TypeName 0x6002) ∷
    (codes "\\decnet", token.TypeName 0x6003) ∷
    (codes "\\lat", token.TypeName 0x6004) ∷
    (codes "\\sca", token.TypeName 0x6007) ∷
    (codes "\\rarp", token.TypeName 0x8035) ∷
    (codes "\\ip6", token.TypeName 0x86dd) ∷
    (codes "loopback", token.TypeName 0x9000) ∷ []

-- flags of TCP (RFC 9293 section 3.1, RFC 3168 section 6.1)
abbrev pub tcp_flags : List Name
tcp_flags =
    (codes "tcp-fin", token.Number 1) ∷
    (codes "tcp-syn", token.Number 2) ∷
    (codes "tcp-rst", token.Number 4) ∷
    (codes "tcp-push", token.Number 8) ∷
    (codes "tcp-ack", token.Number 16) ∷
    (codes "tcp-urg", token.Number 32) ∷
    (codes "tcp-ece", token.Number 64) ∷
    (codes "tcp-cwr", token.Number 128) ∷ []

-- types of ICMP (IANA, ICMP Type Numbers)
abbrev pub icmp_types : List Name
icmp_types =
    (codes "icmp-echoreply", token.Number 0) ∷
    (codes "icmp-unreach", token.Number 3) ∷
    (codes "icmp-sourcequench", token.Number 4) ∷
    (codes "icmp-redirect", token.Number 5) ∷
    (codes "icmp-echo", token.Number 8) ∷
    (codes "icmp-routeradvert", token.Number 9) ∷
    (codes "icmp-routersolicit", token.Number 10) ∷
    (codes "icmp-timxceed", token.Number 11) ∷
    (codes "icmp-paramprob", token.Number 12) ∷
    (codes "icmp-tstamp", token.Number 13) ∷
    (codes "icmp-tstampreply", token.Number 14) ∷
    (codes "icmp-ireq", token.Number 15) ∷
    (codes "icmp-ireqreply", token.Number 16) ∷
    (codes "icmp-maskreq", token.Number 17) ∷
    (codes "icmp-maskreply", token.Number 18) ∷ []

-- types of ICMPv6 (IANA, ICMPv6 "type" Numbers)
abbrev pub icmp6_types : List Name
icmp6_types =
    (codes "icmp6-destinationunreach", token.Number 1) ∷
    (codes "icmp6-packettoobig", token.Number 2) ∷
    (codes "icmp6-timeexceeded", token.Number 3) ∷
    (codes "icmp6-parameterproblem", token.Number 4) ∷
    (codes "icmp6-echo", token.Number 128) ∷
    (codes "icmp6-echoreply", token.Number 129) ∷
    (codes "icmp6-multicastlistenerquery", token.Number 130) ∷
    (codes "icmp6-multicastlistenerreportv1", token.Number 131) ∷
    (codes "icmp6-multicastlistenerdone", token.Number 132) ∷
    (codes "icmp6-routersolicit", token.Number 133) ∷
    (codes "icmp6-routeradvert", token.Number 134) ∷
    (codes "icmp6-neighborsolicit", token.Number 135) ∷
    (codes "icmp6-neighboradvert", token.Number 136) ∷
    (codes "icmp6-redirect", token.Number 137) ∷
    (codes "icmp6-routerrenum", token.Number 138) ∷
    (codes "icmp6-nodeinformationquery", token.Number 139) ∷
    (codes "icmp6-nodeinformationresponse", token.Number 140) ∷
    (codes "icmp6-ineighbordiscoverysolicit", token.Number 141) ∷
    (codes "icmp6-ineighbordiscoveryadvert", token.Number 142) ∷
    (codes "icmp6-multicastlistenerreportv2", token.Number 143) ∷
    (codes "icmp6-homeagentdiscoveryrequest", token.Number 144) ∷
    (codes "icmp6-homeagentdiscoveryreply", token.Number 145) ∷
    (codes "icmp6-mobileprefixsolicit", token.Number 146) ∷
    (codes "icmp6-mobileprefixadvert", token.Number 147) ∷
    (codes "icmp6-certpathsolicit", token.Number 148) ∷
    (codes "icmp6-certpathadvert", token.Number 149) ∷
    (codes "icmp6-multicastrouteradvert", token.Number 151) ∷
    (codes "icmp6-multicastroutersolicit", token.Number 152) ∷
    (codes "icmp6-multicastrouterterm", token.Number 153) ∷ []

-- ports (IANA, Service Name and Transport Protocol Port Number Registry); `imap2` and `snmp-trap`
-- are the names of /etc/services for its `imap` and `snmptrap`, as `sip-tls` is for its `sips`,
-- which is no name here
abbrev pub services : List Name
services =
    (codes "echo", token.Service 7) ∷
    (codes "discard", token.Service 9) ∷
    (codes "daytime", token.Service 13) ∷
    (codes "chargen", token.Service 19) ∷
    (codes "ftp-data", token.Service 20) ∷
    (codes "ftp", token.Service 21) ∷
    (codes "ssh", token.Service 22) ∷
    (codes "telnet", token.Service 23) ∷
    (codes "smtp", token.Service 25) ∷
    (codes "time", token.Service 37) ∷
    (codes "tacacs", token.Service 49) ∷
    (codes "domain", token.Service 53) ∷
    (codes "bootps", token.Service 67) ∷
    (codes "bootpc", token.Service 68) ∷
    (codes "tftp", token.Service 69) ∷
    (codes "gopher", token.Service 70) ∷
    (codes "finger", token.Service 79) ∷
    (codes "http", token.Service 80) ∷
    (codes "kerberos", token.Service 88) ∷
    (codes "pop3", token.Service 110) ∷
    (codes "sunrpc", token.Service 111) ∷
    (codes "nntp", token.Service 119) ∷
    (codes "ntp", token.Service 123) ∷
    (codes "epmap", token.Service 135) ∷
    (codes "netbios-ns", token.Service 137) ∷
    (codes "netbios-dgm", token.Service 138) ∷
    (codes "netbios-ssn", token.Service 139) ∷
    (codes "imap2", token.Service 143) ∷
    (codes "imap", token.Service 143) ∷
    (codes "snmp", token.Service 161) ∷
    (codes "snmptrap", token.Service 162) ∷
    (codes "snmp-trap", token.Service 162) ∷
    (codes "xdmcp", token.Service 177) ∷
    (codes "bgp", token.Service 179) ∷
    (codes "irc", token.Service 194) ∷
    (codes "ldap", token.Service 389) ∷
    (codes "https", token.Service 443) ∷
    (codes "microsoft-ds", token.Service 445) ∷
    (codes "isakmp", token.Service 500) ∷
    (codes "syslog", token.Service 514) ∷
    (codes "printer", token.Service 515) ∷
    (codes "rtsp", token.Service 554) ∷
    (codes "nntps", token.Service 563) ∷
    (codes "submission", token.Service 587) ∷
    (codes "ipp", token.Service 631) ∷
    (codes "ldaps", token.Service 636) ∷
    (codes "domain-s", token.Service 853) ∷
    (codes "rsync", token.Service 873) ∷
    (codes "ftps-data", token.Service 989) ∷
    (codes "ftps", token.Service 990) ∷
    (codes "telnets", token.Service 992) ∷
    (codes "imaps", token.Service 993) ∷
    (codes "pop3s", token.Service 995) ∷
    (codes "socks", token.Service 1080) ∷
    (codes "openvpn", token.Service 1194) ∷
    (codes "ms-sql-s", token.Service 1433) ∷
    (codes "radius", token.Service 1812) ∷
    (codes "radius-acct", token.Service 1813) ∷
    (codes "nfs", token.Service 2049) ∷
    (codes "mysql", token.Service 3306) ∷
    (codes "ms-wbt-server", token.Service 3389) ∷
    (codes "sip", token.Service 5060) ∷
    (codes "sip-tls", token.Service 5061) ∷
    (codes "xmpp-client", token.Service 5222) ∷
    (codes "mdns", token.Service 5353) ∷
    (codes "postgresql", token.Service 5432) ∷
    (codes "amqp", token.Service 5672) ∷
    (codes "x11", token.Service 6000) ∷
    (codes "redis", token.Service 6379) ∷
    (codes "http-alt", token.Service 8080) ∷ []

-- what the name of a value says, each of which stands in one of these tables, once, and is no other
-- name
unfoldable pub named_value_of : List ℕ → Option Token
named_value_of word = option_or (option_or (token_in (ip_numbers ++ type_names) word)
    (token_in (tcp_flags ++ (icmp_types ++ icmp6_types)) word)) (token_in services word)
