-- What can stand at a place of a text, as an error names it.
use Rattle.std.specs.Prelude.{ℕ, Bool, true, false, Option, Some, None, List, [], ◌∷◌, codes}
use Rattle.std.specs.Prelude.{if◌then◌else◌, is_some, nat_le, option_map}
use Rattle.packet_filter.specs.Grammar.{ipv4_of, loads_at, value_of}
use Rattle.packet_filter.specs.declared.expected.Expected.{Expected}
use Rattle.packet_filter.specs.declared.expected.Expected.TheVariants as expected
use Rattle.packet_filter.specs.declared.expression.Network.TheVariants as network
use Rattle.packet_filter.specs.declared.expression.Operator.{Operator}
use Rattle.packet_filter.specs.declared.expression.Operator.TheVariants.{And, Or}
use Rattle.packet_filter.specs.declared.expression.Version.TheVariants.{Ipv4, Ipv6}
use Rattle.packet_filter.specs.declared.head.Head.{Head}
use Rattle.packet_filter.specs.declared.head.Head.TheVariants as head
use Rattle.packet_filter.specs.declared.token.Token.{Token}
use Rattle.packet_filter.specs.declared.token.Token.TheVariants as token

-- words that can stand there, and the text, which names them and, where a primitive can end there,
-- an operator
abbrev pub row : Expected → List (List ℕ) × List ℕ
row expected.Operand = (
  codes "not" ∷ codes "(" ∷ codes "tcp" ∷ codes "host" ∷ [],
  codes "`not`, `(` or a primitive, such as `tcp` or `host`",
)
row (expected.Operator None false) = (codes "and" ∷ codes "or" ∷ [], codes "`and` or `or`")
row (expected.Operator None true) = (
  codes "and" ∷ codes "or" ∷ codes ")" ∷ [],
  codes "`and`, `or` or `)`",
)
row (expected.Operator (Some And) false) = (codes "and" ∷ [], codes "`and`")
row (expected.Operator (Some And) true) = (codes "and" ∷ codes ")" ∷ [], codes "`and` or `)`")
row (expected.Operator (Some Or) false) = (codes "or" ∷ [], codes "`or`")
row (expected.Operator (Some Or) true) = (codes "or" ∷ codes ")" ∷ [], codes "`or` or `)`")
row expected.AfterIp = (
  codes "src" ∷ codes "dst" ∷ codes "host" ∷ codes "net" ∷ codes "proto" ∷ codes "multicast" ∷
      codes "[" ∷ [],
  codes "`src`, `dst`, `host`, `net`, `proto`, `multicast`, `[` or an operator",
)
row expected.AfterNetwork = (
  codes "src" ∷ codes "dst" ∷ codes "host" ∷ codes "net" ∷ codes "[" ∷ [],
  codes "`src`, `dst`, `host`, `net`, `[` or an operator",
)
row expected.AfterTransport = (
  codes "src" ∷ codes "dst" ∷ codes "port" ∷ codes "portrange" ∷ codes "[" ∷ [],
  codes "`src`, `dst`, `port`, `portrange`, `[` or an operator",
)
row expected.AfterVlan = (
  codes "5" ∷ [],
  codes "the identifier of a VLAN, such as `5`, or an operator",
)
row expected.AfterDirection = (
  codes "host" ∷ codes "net" ∷ codes "port" ∷ codes "portrange" ∷ codes "10.0.0.1" ∷ [],
  codes "`host`, `net`, `port`, `portrange` or an address, such as `10.0.0.1`",
)
row expected.AfterTransportDirection = (
  codes "port" ∷ codes "portrange" ∷ [],
  codes "`port` or `portrange`",
)
row expected.AfterEther = (
  codes "src" ∷ codes "dst" ∷ codes "host" ∷ codes "proto" ∷ codes "broadcast" ∷
      codes "multicast" ∷ codes "[" ∷ [],
  codes "`src`, `dst`, `host`, `proto`, `broadcast`, `multicast` or `[`",
)
row expected.Destination = (codes "dst" ∷ [], codes "`dst`")
row (expected.Address None) = (
  codes "10.0.0.1" ∷ codes "fe80::1" ∷ [],
  codes "an address, such as `10.0.0.1` or `fe80::1`",
)
row (expected.Address (Some Ipv4)) = (
  codes "10.0.0.1" ∷ [],
  codes "an IPv4 address, such as `10.0.0.1`",
)
row (expected.Address (Some Ipv6)) = (
  codes "fe80::1" ∷ [],
  codes "an IPv6 address, such as `fe80::1`",
)
row (expected.Network None) = (
  codes "10.0.0.0/8" ∷ codes "fe80::/10" ∷ [],
  codes "a network, such as `10.0.0.0/8` or `fe80::/10`",
)
row (expected.Network (Some Ipv4)) = (
  codes "10.0.0.0/8" ∷ [],
  codes "an IPv4 network, such as `10.0.0.0/8`",
)
row (expected.Network (Some Ipv6)) = (
  codes "fe80::/10" ∷ [],
  codes "an IPv6 network, such as `fe80::/10`",
)
row expected.AfterAddress = (codes "mask" ∷ [], codes "`mask` or an operator")
row expected.Mask = (
  codes "255.255.255.255" ∷ [],
  codes "a mask with all bits of the address, such as `255.255.255.255`",
)
row expected.Port = (codes "80" ∷ codes "http" ∷ [], codes "a port, such as `80` or `http`")
row expected.PortRange = (codes "6000-6063" ∷ [], codes "a range of ports, such as `6000-6063`")
row expected.Protocol = (
  codes "6" ∷ codes "\\tcp" ∷ [],
  codes "a protocol that IP carries, such as `6` or `\\tcp`",
)
row expected.EthernetAddress = (
  codes "02:00:00:00:00:01" ∷ [],
  codes "an Ethernet address, such as `02:00:00:00:00:01`",
)
row expected.EtherType = (
  codes "0x0806" ∷ codes "\\arp" ∷ [],
  codes "an EtherType, such as `0x0806` or `\\arp`",
)
row expected.Fragment = (codes "fragment" ∷ [], codes "`fragment`")
row expected.Wrong = (codes "wrong" ∷ [], codes "`wrong`")
row expected.Place = (
  codes "13" ∷ codes "tcpflags" ∷ codes "2:4" ∷ [],
  codes "a place, such as `13` or `tcpflags`, or one with a size, such as `2:4`",
)
row expected.CloseBracket = (codes "]" ∷ [], codes "`]`")
row expected.Relation = (
  codes "=" ∷ codes "!=" ∷ codes "<" ∷ [],
  codes "a relation, such as `=`, `!=` or `<`",
)
row expected.Number = (codes "64" ∷ [], codes "a number, such as `64`")
row expected.Bits = (codes "|" ∷ codes ")" ∷ [], codes "`|` or `)`")

-- words that can stand there
abbrev pub examples : Expected → List (List ℕ)
examples e = (row e).0

-- the text
abbrev pub expected_text : Expected → List ℕ
expected_text e = (row e).1

-- ---- the words that it names, by themselves or by their kind

-- a value of the head
abbrev pub is_of : Head → Token → Bool
is_of h w = is_some (value_of w h)

-- a value of any head
abbrev pub is_value : Token → Bool
is_value (token.Number k) = true
is_value (token.Range low high) = true
is_value (token.Service k) = true
is_value (token.IpNumber k) = true
is_value (token.TypeName k) = true
is_value (token.Address a) = true
is_value (token.Prefix a bits) = true
is_value (token.Front a bits) = true
is_value (token.Hardware a) = true
is_value _ = false

-- `not`, `(`, or a word that begins a primitive or is one: a value alone is one
abbrev pub is_operand : Token → Bool
is_operand token.Not = true
is_operand token.Open = true
is_operand (token.Network n) = true
is_operand (token.Transport t) = true
is_operand (token.Protocol v k) = true
is_operand (token.EtherType k) = true
is_operand token.Ether = true
is_operand token.Source = true
is_operand token.Destination = true
is_operand token.Host = true
is_operand token.Net = true
is_operand token.Port = true
is_operand token.PortRange = true
is_operand token.Proto = true
is_operand token.Broadcast = true
is_operand token.Multicast = true
is_operand token.Length = true
is_operand token.Vlan = true
is_operand token.Less = true
is_operand token.Greater = true
is_operand token.Fragment = true
is_operand token.First = true
is_operand token.Checksum = true
is_operand w = is_value w

-- the operator can stand after that one on one level
abbrev pub joins : Option Operator → Operator → Bool
joins None o = true
joins (Some And) And = true
joins (Some And) Or = false
joins (Some Or) And = false
joins (Some Or) Or = true

-- an operator that can stand there, or `)` if a parenthesis is open
abbrev pub is_next : Option Operator → Bool → Token → Bool
is_next before closes (token.Operator o) = joins before o
is_next before closes token.Close = closes
is_next before closes _ = false

-- any operator, or `)`
abbrev pub is_joint : Token → Bool
is_joint (token.Operator o) = true
is_joint token.Close = true
is_joint _ = false

abbrev pub is_after_ip : Token → Bool
is_after_ip token.Source = true
is_after_ip token.Destination = true
is_after_ip token.Host = true
is_after_ip token.Net = true
is_after_ip token.Proto = true
is_after_ip token.Multicast = true
is_after_ip token.OpenBracket = true
is_after_ip w = is_joint w

abbrev pub is_after_network : Token → Bool
is_after_network token.Source = true
is_after_network token.Destination = true
is_after_network token.Host = true
is_after_network token.Net = true
is_after_network token.OpenBracket = true
is_after_network w = is_joint w

abbrev pub is_after_transport : Token → Bool
is_after_transport token.Source = true
is_after_transport token.Destination = true
is_after_transport token.Port = true
is_after_transport token.PortRange = true
is_after_transport token.OpenBracket = true
is_after_transport w = is_joint w

abbrev pub is_after_vlan : Token → Bool
is_after_vlan (token.Number k) = nat_le k 4095
is_after_vlan w = is_joint w

abbrev pub is_after_direction : Token → Bool
is_after_direction token.Host = true
is_after_direction token.Net = true
is_after_direction token.Port = true
is_after_direction token.PortRange = true
is_after_direction w = is_of (head.Host None None) w

abbrev pub is_after_transport_direction : Token → Bool
is_after_transport_direction token.Port = true
is_after_transport_direction token.PortRange = true
is_after_transport_direction _ = false

abbrev pub is_after_ether : Token → Bool
is_after_ether token.Source = true
is_after_ether token.Destination = true
is_after_ether token.Host = true
is_after_ether token.Proto = true
is_after_ether token.Broadcast = true
is_after_ether token.Multicast = true
is_after_ether token.OpenBracket = true
is_after_ether _ = false

abbrev pub is_destination : Token → Bool
is_destination token.Destination = true
is_destination _ = false

abbrev pub is_after_address : Token → Bool
is_after_address token.Mask = true
is_after_address w = is_joint w

abbrev pub is_fragment : Token → Bool
is_fragment token.Fragment = true
is_fragment _ = false

abbrev pub is_wrong : Token → Bool
is_wrong token.Wrong = true
is_wrong _ = false

abbrev pub is_close_bracket : Token → Bool
is_close_bracket token.CloseBracket = true
is_close_bracket _ = false

abbrev pub is_relation : Token → Bool
is_relation (token.Relation r) = true
is_relation _ = false

abbrev pub is_number : Token → Bool
is_number (token.Number k) = true
is_number _ = false

abbrev pub is_after_bits : Token → Bool
is_after_bits token.BitOr = true
is_after_bits token.Close = true
is_after_bits _ = false

abbrev pub names : Expected → Token → Bool
names expected.Operand w = is_operand w
names (expected.Operator before closes) w = is_next before closes w
names expected.AfterIp w = is_after_ip w
names expected.AfterNetwork w = is_after_network w
names expected.AfterTransport w = is_after_transport w
names expected.AfterVlan w = is_after_vlan w
names expected.AfterDirection w = is_after_direction w
names expected.AfterTransportDirection w = is_after_transport_direction w
names expected.AfterEther w = is_after_ether w
names expected.Destination w = is_destination w
names (expected.Address v) w = is_of (head.Host (option_map network.Ip v) None) w
names (expected.Network v) w = is_of (head.Net (option_map network.Ip v) None) w
names expected.AfterAddress w = is_after_address w
names expected.Mask w = is_some (ipv4_of w)
names expected.Port w = is_of (head.Port None None) w
names expected.PortRange w = is_of (head.PortRange None None) w
names expected.Protocol w = is_of (head.Proto None) w
names expected.EthernetAddress w = is_of (head.Ether None) w
names expected.EtherType w = is_of head.EtherProto w
names expected.Fragment w = is_fragment w
names expected.Wrong w = is_wrong w
names expected.Place w = is_some (loads_at w)
names expected.CloseBracket w = is_close_bracket w
names expected.Relation w = is_relation w
names expected.Number w = is_number w
names expected.Bits w = is_after_bits w

-- ---- words that can stand there, too, and that it leaves out

-- `not` or `(`, before a value
abbrev pub is_before_value : Token → Bool
is_before_value token.Not = true
is_before_value token.Open = true
is_before_value _ = false

-- and after a direction what it is of, or `or dst` and `and dst` after `src`
abbrev pub is_of_direction : Token → Bool
is_of_direction token.Host = true
is_of_direction token.Net = true
is_of_direction (token.Operator o) = true
is_of_direction w = is_before_value w

abbrev pub is_operator : Token → Bool
is_operator (token.Operator o) = true
is_operator _ = false

-- `[` after the name of a protocol
abbrev pub is_open_bracket : Token → Bool
is_open_bracket token.OpenBracket = true
is_open_bracket _ = false

-- `&`, or `)` round a length or a load
abbrev pub is_after_term : Token → Bool
is_after_term token.BitAnd = true
is_after_term token.Close = true
is_after_term _ = false

-- `(` before several numbers
abbrev pub is_open : Token → Bool
is_open token.Open = true
is_open _ = false

abbrev pub leaves_out : Expected → Token → Bool
leaves_out (expected.Operator before closes) w = is_open_bracket w
leaves_out expected.AfterDirection w = is_of_direction w
leaves_out expected.AfterTransportDirection w = is_operator w
leaves_out (expected.Address v) w = is_of_direction w
leaves_out (expected.Network v) w = is_before_value w
leaves_out expected.Port w = is_before_value w
leaves_out expected.PortRange w = is_before_value w
leaves_out expected.Protocol w = is_before_value w
leaves_out expected.EthernetAddress w = is_of_direction w
leaves_out expected.EtherType w = is_before_value w
leaves_out expected.Relation w = is_after_term w
leaves_out expected.Number w = is_open w
leaves_out _ w = false

-- and at the end of a text, what a primitive goes on with that is complete
abbrev pub is_going_on : Token → Bool
is_going_on token.Source = true
is_going_on token.Destination = true
is_going_on token.Host = true
is_going_on token.Net = true
is_going_on token.Mask = true
is_going_on token.Port = true
is_going_on token.PortRange = true
is_going_on token.Proto = true
is_going_on token.Multicast = true
is_going_on token.OpenBracket = true
is_going_on (token.Number k) = true
is_going_on _ = false

abbrev pub leaves_out_at_end : Expected → Token → Bool
leaves_out_at_end (expected.Operator before closes) w = is_going_on w
leaves_out_at_end e w = leaves_out e w

-- ---- what tells it from others

-- words that can stand there: the examples, and `not` before a value
abbrev pub possible : Expected → List (List ℕ)
possible e = if leaves_out e token.Not then codes "not" ∷ examples e else examples e

-- What has to follow at the end of a text that is no expression. It is not what a primitive goes on
-- with that is complete, and an operator only if `)` is missing, too.
abbrev pub has_to_follow : Expected → Bool
has_to_follow (expected.Operator before closes) = closes
has_to_follow expected.AfterIp = false
has_to_follow expected.AfterNetwork = false
has_to_follow expected.AfterTransport = false
has_to_follow expected.AfterVlan = false
has_to_follow expected.AfterAddress = false
has_to_follow _ = true
