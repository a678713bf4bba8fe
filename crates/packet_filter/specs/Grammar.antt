-- The language of expressions, over words (pcap-filter(7)).
use Rattle.std.specs.Prelude.{ℕ, ◌*◌, ◌-◌, ◌^◌, ◌&&◌, ◌==◌, ◌≡◌, ◌≤◌, Bool, true, false, not}
use Rattle.std.specs.Prelude.{List, [], ◌∷◌, ◌++◌, Option, None, Some, bit_and, bit_or}
use Rattle.std.specs.Prelude.{if◌then◌else◌, nat_le, nat_lt}
use Rattle.packet_filter.specs.Meaning.{Expression, one, negation, compound, transport_number}
use Rattle.packet_filter.specs.declared.address.Address.{Address}
use Rattle.packet_filter.specs.declared.address.Address.TheVariants.{V4, V6}
use Rattle.packet_filter.specs.declared.expression.Direction.{Direction}
use Rattle.packet_filter.specs.declared.expression.Direction.TheVariants as direction
use Rattle.packet_filter.specs.declared.expression.Layer.{Layer}
use Rattle.packet_filter.specs.declared.expression.Layer.TheVariants as layer
use Rattle.packet_filter.specs.declared.expression.Network.{Network}
use Rattle.packet_filter.specs.declared.expression.Network.TheVariants as network
use Rattle.packet_filter.specs.declared.expression.Operator.{Operator}
use Rattle.packet_filter.specs.declared.expression.Operator.TheVariants.{And, Or}
use Rattle.packet_filter.specs.declared.expression.Primitive.{Primitive}
use Rattle.packet_filter.specs.declared.expression.Primitive.TheVariants as says
use Rattle.packet_filter.specs.declared.expression.Quantity.{Quantity}
use Rattle.packet_filter.specs.declared.expression.Quantity.TheVariants.{Length, Load}
use Rattle.packet_filter.specs.declared.expression.Relation.{Relation}
use Rattle.packet_filter.specs.declared.expression.Relation.TheVariants as relation
use Rattle.packet_filter.specs.declared.expression.Size.{Size}
use Rattle.packet_filter.specs.declared.expression.Size.TheVariants.{One}
use Rattle.packet_filter.specs.declared.expression.Transport.{Transport}
use Rattle.packet_filter.specs.declared.expression.Version.{Version}
use Rattle.packet_filter.specs.declared.expression.Version.TheVariants.{Ipv4, Ipv6}
use Rattle.packet_filter.specs.declared.head.Head.{Head}
use Rattle.packet_filter.specs.declared.head.Head.TheVariants as head
use Rattle.packet_filter.specs.declared.token.Token.{Token}
use Rattle.packet_filter.specs.declared.token.Token.TheVariants as token

-- ---- qualifiers

-- words before a head, each of which can be left out
abbrev pub version_words : Option Version → List Token
version_words None = []
version_words (Some v) = token.Network (network.Ip v) ∷ []

abbrev pub network_words : Option Network → List Token
network_words None = []
network_words (Some n) = token.Network n ∷ []

abbrev pub transport_words : Option Transport → List Token
transport_words None = []
transport_words (Some t) = token.Transport t ∷ []

-- `src`, `dst`, `src or dst` or `src and dst`
abbrev pub direction_words : Option Direction → List Token
direction_words None = []
direction_words (Some direction.Source) = token.Source ∷ []
direction_words (Some direction.Destination) = token.Destination ∷ []
direction_words (Some direction.Either) =
    token.Source ∷ token.Operator Or ∷ token.Destination ∷ []
direction_words (Some direction.Both) =
    token.Source ∷ token.Operator And ∷ token.Destination ∷ []

-- The words of a primitive up to its value. After a direction `host` can be left out.
pub data IsHead : List Token → Head → Type 0 where
  host : (n : Option Network) (d : Option Direction)
      → IsHead (network_words n ++ (direction_words d ++ token.Host ∷ [])) (head.Host n d)
  directed : (n : Option Network) (d : Direction)
      → IsHead (network_words n ++ direction_words (Some d)) (head.Host n (Some d))
  net : (n : Option Network) (d : Option Direction)
      → IsHead (network_words n ++ (direction_words d ++ token.Net ∷ [])) (head.Net n d)
  port : (t : Option Transport) (d : Option Direction)
      → IsHead (transport_words t ++ (direction_words d ++ token.Port ∷ [])) (head.Port t d)
  portrange : (t : Option Transport) (d : Option Direction)
      → IsHead (transport_words t ++ (direction_words d ++ token.PortRange ∷ []))
      (head.PortRange t d)
  proto : (v : Option Version) → IsHead (version_words v ++ token.Proto ∷ []) (head.Proto v)
  ether_host : (d : Option Direction)
      → IsHead (token.Ether ∷ (direction_words d ++ token.Host ∷ [])) (head.Ether d)
  ether_directed : (d : Direction)
      → IsHead (token.Ether ∷ direction_words (Some d)) (head.Ether (Some d))
  ether_proto : IsHead (token.Ether ∷ token.Proto ∷ []) head.EtherProto

-- ---- values

-- how many bits an address has
abbrev pub bits_of : Address → ℕ
bits_of (V4 a) = 32
bits_of (V6 a) = 128

-- it is an IPv4 address
abbrev pub is_version_4 : Address → Bool
is_version_4 (V4 a) = true
is_version_4 (V6 a) = false

-- a primitive, if the condition holds
abbrev pub provided : Bool → Primitive → Option Primitive
provided is p = if is then Some p else None

-- the address is of a version that the protocol has; ARP and RARP are asked for IPv4 addresses
abbrev pub fits : Option Network → Address → Bool
fits None a = true
fits (Some (network.Ip Ipv4)) a = is_version_4 a
fits (Some (network.Ip Ipv6)) a = not (is_version_4 a)
fits (Some network.Arp) a = is_version_4 a
fits (Some network.Rarp) a = is_version_4 a

-- What a value says after a head. A port has 16 bits, a number of IP's payload 8 (RFC 791 section
-- 3.1, RFC 8200 section 3). Up to 1500 what stands in the place of an EtherType is a length (IEEE
-- 802.3 section 3.2.6). One number alone is the first eight bits of an IPv4 network.
abbrev pub value_of : Token → Head → Option Primitive
value_of (token.Address a) (head.Host n d) = provided (fits n a) (says.Net n d a (bits_of a))
value_of (token.Address a) (head.Net n d) = provided (fits n a) (says.Net n d a (bits_of a))
value_of (token.Prefix a bits) (head.Net n d) =
    provided (fits n a && nat_le bits (bits_of a)) (says.Net n d a bits)
value_of (token.Front a bits) (head.Net n d) =
    provided (fits n (V4 a)) (says.Net n d (V4 a) bits)
value_of (token.Number k) (head.Net n d) =
    provided (fits n (V4 0) && nat_le k 255) (says.Net n d (V4 (k * 2 ^ 24)) 8)
value_of (token.Number k) (head.Port t d) = provided (nat_le k 65535) (says.Ports t d k k)
value_of (token.Number k) (head.Proto v) = provided (nat_le k 255) (says.Proto v k)
value_of (token.Number k) head.EtherProto =
    provided (nat_lt 1500 k && nat_le k 65535) (says.EtherType k)
value_of (token.Service k) (head.Port t d) = Some (says.Ports t d k k)
value_of (token.Range low high) (head.PortRange t d) =
    provided (nat_le low high && nat_le high 65535) (says.Ports t d low high)
value_of (token.IpNumber k) (head.Proto v) = Some (says.Proto v k)
value_of (token.Hardware address) (head.Ether d) = Some (says.Hardware d address)
value_of (token.TypeName k) head.EtherProto = Some (says.EtherType k)
value_of _ _ = None

-- the IPv4 address that two to four octets are: zeros follow them
abbrev pub ipv4_of : Token → Option ℕ
ipv4_of (token.Address (V4 a)) = Some a
ipv4_of (token.Front a bits) = Some a
ipv4_of _ = None

-- What an address and a mask say after a head. A mask is of any bits, but has all that the address
-- has.
abbrev pub masked_value_of : Head → Option ℕ → Option ℕ → Option Primitive
masked_value_of (head.Net n d) (Some a) (Some mask) =
    provided (fits n (V4 a) && (bit_and a (2 ^ 32 - 1 - mask) == 0)) (says.Masked n d a mask)
masked_value_of _ _ _ = None

-- ---- words that stand alone

-- the bit of an Ethernet destination that says that it is a group of stations: the lowest of its
-- first byte (IEEE 802.3 section 3.2.3)
abbrev pub ethernet_multicast : Primitive
ethernet_multicast =
    says.Compare (Load layer.Ether 0 One) (Some 1) relation.NotEqual 0

-- the destination that is all stations: all bits are 1 (IEEE 802.3 section 3.2.3)
abbrev pub ethernet_broadcast : Primitive
ethernet_broadcast =
    says.Hardware (Some direction.Destination) (255 ∷ 255 ∷ 255 ∷ 255 ∷ 255 ∷ 255 ∷ [])

-- 224.0.0.0/4 (RFC 1112 section 4) and ff00::/8 (RFC 4291 section 2.7)
abbrev pub ip_multicast : Version → Primitive
ip_multicast v = says.Net (Some (network.Ip v)) (Some direction.Destination) (prefix v) (bits v)
  where
    prefix : Version → Address
    prefix Ipv4 = V4 (224 * 2 ^ 24)
    prefix Ipv6 = V6 (255 * 2 ^ 120)

    bits : Version → ℕ
    bits Ipv4 = 4
    bits Ipv6 = 8

-- the EtherTypes of ARP (RFC 826) and RARP (RFC 903)
abbrev pub network_primitive : Network → Primitive
network_primitive (network.Ip v) = says.Version v
network_primitive network.Arp = says.EtherType 0x0806
network_primitive network.Rarp = says.EtherType 0x8035

-- what a word says that is a primitive by itself
abbrev pub alone : Token → Option Primitive
alone (token.Network n) = Some (network_primitive n)
alone (token.Transport t) = Some (says.Proto None (transport_number t))
alone (token.Protocol v number) = Some (says.Proto v number)
alone (token.EtherType number) = Some (says.EtherType number)
alone token.Broadcast = Some ethernet_broadcast
alone token.Multicast = Some ethernet_multicast
alone token.Vlan = Some (says.Vlan None)
alone token.Fragment = Some says.Fragment
alone _ = None

-- ---- comparisons

-- what bytes are loaded from
abbrev pub network_layer : Network → Layer
network_layer (network.Ip v) = layer.Ip v
network_layer network.Arp = layer.Type 0x0806
network_layer network.Rarp = layer.Type 0x8035

abbrev pub layer_of : Token → Option Layer
layer_of token.Ether = Some layer.Ether
layer_of (token.Network n) = Some (network_layer n)
layer_of (token.Transport t) = Some (layer.Payload None (transport_number t))
layer_of (token.Protocol v number) = Some (layer.Payload v number)
layer_of _ = None

-- where, and how many bytes: one if the size is left out
abbrev pub loads_at : Token → Option (ℕ × Size)
loads_at (token.Number place) = Some (place, One)
loads_at (token.Place place size) = Some (place, size)
loads_at _ = None

-- numbers with `|` between them, and the bitwise or of all of them
pub data AreBits : List Token → ℕ → Type 0 where
  single : (k : ℕ) → AreBits (token.Number k ∷ []) k
  with : {words : List Token} {bits : ℕ} → AreBits words bits → (k : ℕ)
      → AreBits (words ++ token.BitOr ∷ token.Number k ∷ []) (bit_or bits k)

-- a number, or such a list in parentheses
pub data IsConstant : List Token → ℕ → Type 0 where
  number : (k : ℕ) → IsConstant (token.Number k ∷ []) k
  list : {words : List Token} {bits : ℕ} → AreBits words bits
      → IsConstant (token.Open ∷ (words ++ token.Close ∷ [])) bits

-- `len` or a load, with a mask or without, perhaps in parentheses
pub data IsTerm : List Token → Quantity → Option ℕ → Type 0 where
  len : IsTerm (token.Length ∷ []) Length None
  load : {word at : Token} {l : Layer} {place : ℕ} {size : Size} → layer_of word ≡ Some l
      → loads_at at ≡ Some (place, size)
      → IsTerm (word ∷ token.OpenBracket ∷ at ∷ token.CloseBracket ∷ []) (Load l place size) None
  masked_ : {words bits : List Token} {q : Quantity} {mask : ℕ} → IsTerm words q None
      → IsConstant bits mask → IsTerm (words ++ token.BitAnd ∷ bits) q (Some mask)
  grouped : {words : List Token} {q : Quantity} {mask : Option ℕ} → IsTerm words q mask
      → IsTerm (token.Open ∷ (words ++ token.Close ∷ [])) q mask

-- ---- primitives

-- The words are this primitive, which has no value that another can follow. The identifier of a
-- VLAN has 12 bits (IEEE 802.1Q section 9.6).
pub data IsPrimitive : List Token → Primitive → Type 0 where
  word : {w : Token} {p : Primitive} → alone w ≡ Some p → IsPrimitive (w ∷ []) p
  vlan : (k : ℕ) → k ≤ 4095 → IsPrimitive (token.Vlan ∷ token.Number k ∷ []) (says.Vlan (Some k))
  less : (k : ℕ) → IsPrimitive (token.Less ∷ token.Number k ∷ [])
      (says.Compare Length None relation.LessOrEqual k)
  greater : (k : ℕ) → IsPrimitive (token.Greater ∷ token.Number k ∷ [])
      (says.Compare Length None relation.GreaterOrEqual k)
  ether_broadcast : IsPrimitive (token.Ether ∷ token.Broadcast ∷ []) ethernet_broadcast
  ether_multicast : IsPrimitive (token.Ether ∷ token.Multicast ∷ []) ethernet_multicast
  multicast : (v : Version)
      → IsPrimitive (token.Network (network.Ip v) ∷ token.Multicast ∷ []) (ip_multicast v)
  first_fragment : IsPrimitive (token.First ∷ token.Fragment ∷ []) says.FirstFragment
  checksum_wrong : IsPrimitive (token.Checksum ∷ token.Wrong ∷ []) says.WrongChecksum
  comparison : {words limit : List Token} {q : Quantity} {mask : Option ℕ} {k : ℕ}
      → IsTerm words q mask → (r : Relation) → IsConstant limit k
      → IsPrimitive (words ++ token.Relation r ∷ limit) (says.Compare q mask r k)

-- ---- expressions

-- an operand; operands with this operator between them
pub data Kind : Type 0 where
  operand : Kind
  chain : Operator → Kind

-- the head of a value alone after a primitive that has none, and at the beginning
abbrev pub first_head : Head
first_head = head.Host None None

-- The words are an expression of this kind. `not` binds tighter than `and` and `or`, which stand
-- together only where parentheses keep them apart. A value alone has the head of the last primitive
-- before it that no closed parentheses enclose: in place of the words its head would be `before`,
-- and after them `after`. If `only` is true, all primitives are values alone: so after a head. A
-- network has its mask after the word `mask`.
pub data Reads : Kind → Bool → Head → List Token → Expression → Head → Type 0 where
  primitive : {before : Head} {words : List Token} {p : Primitive} → IsPrimitive words p
      → Reads operand false before words (one p) first_head
  headed : {before h after : Head} {words values : List Token} {e : Expression} → IsHead words h
      → Reads operand true h values e after → Reads operand false before (words ++ values) e after
  value : {only : Bool} {h : Head} {p : Primitive} → (w : Token) → value_of w h ≡ Some p
      → Reads operand only h (w ∷ []) (one p) h
  masked_value : {only : Bool} {h : Head} {p : Primitive} → (address mask : Token)
      → masked_value_of h (ipv4_of address) (ipv4_of mask) ≡ Some p
      → Reads operand only h (address ∷ token.Mask ∷ mask ∷ []) (one p) h
  not_ : {only : Bool} {before after : Head} {words : List Token} {e : Expression}
      → Reads operand only before words e after
      → Reads operand only before (token.Not ∷ words) (negation e) after
  parentheses : {kind : Kind} {only : Bool} {before after : Head} {words : List Token}
      {e : Expression} → Reads kind only before words e after
      → Reads operand only before (token.Open ∷ (words ++ token.Close ∷ [])) e before
  first : {only : Bool} {before amid after : Head} {o : Operator} {left right : List Token}
      {a b : Expression} → Reads operand only before left a amid
      → Reads operand only amid right b after
      → Reads (chain o) only before (left ++ token.Operator o ∷ right) (compound o a b) after
  more : {only : Bool} {before amid after : Head} {o : Operator} {left right : List Token}
      {a b : Expression} → Reads (chain o) only before left a amid
      → Reads operand only amid right b after
      → Reads (chain o) only before (left ++ token.Operator o ∷ right) (compound o a b) after

-- the words are this expression
pub record IsExpression (words : List Token) (e : Expression) : Type 0 where
  pub kind : Kind
  pub last : Head
  pub reads : Reads kind false first_head words e last
