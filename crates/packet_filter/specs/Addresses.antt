-- Words that are addresses, or networks.
use Rattle.std.specs.Prelude.{ℕ, ◌≡◌, ◌==◌, ◌&&◌, ◌+◌, ◌*◌, ◌^◌, Bool, slice_index}
use Rattle.std.specs.Prelude.{if◌then◌else◌, List, [], ◌∷◌, length}
use Rattle.std.specs.Prelude.{Option, Some, None, nat_le, nat_lt, option_map}
use Rattle.std.specs.Char.{digit_value}
use Rattle.std.specs.Net.Addr.{ipv4_bits, ipv6_bits}
use Rattle.std.specs.Net.Grammar.{IsIpText}
use Rattle.std.specs.declared.net.ip_addr.IpAddr.{IpAddr}
use Rattle.std.specs.declared.net.ip_addr.IpAddr.TheVariants as Ip
use Rattle.packet_filter.specs.Numbers.{before, beyond, colon, decimal_of, dot, has, number_of}
use Rattle.packet_filter.specs.Numbers.{slash}
use Rattle.packet_filter.specs.declared.address.Address.{Address}
use Rattle.packet_filter.specs.declared.address.Address.TheVariants.{V4, V6}
use Rattle.packet_filter.specs.declared.token.Token.{Token}
use Rattle.packet_filter.specs.declared.token.Token.TheVariants as token

-- ---- networks in short

-- a number, if it is an octet
abbrev pub at_most_255 : Option ℕ → Option ℕ
at_most_255 None = None
at_most_255 (Some n) = if nat_le n 255 then Some n else None

-- the octet that a word is, in decimal
abbrev pub octet_of : List ℕ → Option ℕ
octet_of word = at_most_255 (decimal_of word)

-- the IPv4 address whose first three octets are these, if they are there, and whose last is 0
abbrev pub with_octets : Option ℕ → Option ℕ → Option ℕ → Option ℕ
with_octets (Some a) (Some b) (Some c) = Some (a * 2 ^ 24 + b * 2 ^ 16 + c * 2 ^ 8)
with_octets None b c = None
with_octets (Some a) None c = None
with_octets (Some a) (Some b) None = None

-- The IPv4 address that begins with the octets of a word, one to three with dots between them. What
-- is missing is 0.
abbrev pub short_address : List ℕ → Option ℕ
short_address word =
    if has dot (beyond dot word) then with_octets (octet_of (before dot word))
    (octet_of (before dot (beyond dot word))) (octet_of (beyond dot (beyond dot word)))
    else if has dot word then
    with_octets (octet_of (before dot word)) (octet_of (beyond dot word)) (Some 0)
    else with_octets (octet_of word) (Some 0) (Some 0)

-- how many bits these octets are
abbrev pub short_len : List ℕ → ℕ
short_len word = if has dot (beyond dot word) then 24 else if has dot word then 16 else 8

-- a network of IPv4, if its address and how many of its bits count are there
abbrev pub networked : Option ℕ → Option ℕ → Option Token
networked (Some address) (Some bits) = Some (token.Prefix (V4 address) bits)
networked None bits = None
networked (Some address) None = None

-- the front of an IPv4 address, if it is there, and how many bits it is
abbrev pub fronted : Option ℕ → ℕ → Option Token
fronted None bits = None
fronted (Some address) bits = Some (token.Front address bits)

-- up to three octets, alone or with a slash and a number after them
abbrev pub short_net_of : List ℕ → Option Token
short_net_of word =
    if has slash word then
    networked (short_address (before slash word)) (number_of (beyond slash word))
    else fronted (short_address word) (short_len word)

-- ---- Ethernet addresses

-- the octet that two digits are
abbrev pub hexadecimal_octet : ℕ → ℕ → Option ℕ
hexadecimal_octet a b = if nat_lt a 16 && nat_lt b 16 then Some (16 * a + b) else None

-- the octet that two hexadecimal digits at a place of a word are
abbrev pub octet_at : List ℕ → ℕ → Option ℕ
octet_at word i =
    hexadecimal_octet (digit_value (slice_index word i)) (digit_value (slice_index word (i + 1)))

-- both, if they are there
abbrev pub and_octets : Option ℕ → Option (List ℕ) → Option (List ℕ)
and_octets (Some octet) (Some octets) = Some (octet ∷ octets)
and_octets None octets = None
and_octets (Some octet) None = None

-- the octets at all these places
abbrev pub octets_at : List ℕ → List ℕ → Option (List ℕ)
octets_at word [] = Some []
octets_at word (i ∷ is) = and_octets (octet_at word i) (octets_at word is)

-- the word has the length of six octets with colons between them, and the colons
abbrev pub has_colons : List ℕ → Bool
has_colons word = (length word == 17) && (slice_index word 2 == colon)
    && (slice_index word 5 == colon) && (slice_index word 8 == colon)
    && (slice_index word 11 == colon) && (slice_index word 14 == colon)

-- an Ethernet address: six octets, each of two hexadecimal digits, with colons between them
abbrev pub hardware_of : List ℕ → Option Token
hardware_of word = if has_colons word
    then option_map token.Hardware (octets_at word (0 ∷ 3 ∷ 6 ∷ 9 ∷ 12 ∷ 15 ∷ []))
    else None

-- ---- addresses

-- the number that the octets of an address make
abbrev pub address_of : IpAddr → Address
address_of (Ip.V4 a) = V4 (ipv4_bits a)
address_of (Ip.V6 a) = V6 (ipv6_bits a)

-- The word is an address, or none: four decimal numbers (RFC 6943 section 3.1.1, "strict"), or the
-- text of an IPv6 address (RFC 4291 section 2.2).
abbrev pub IsAddress : List ℕ → Option Address → Type 0
IsAddress word (Some a) = (ip : IpAddr) × IsIpText word ip × (a ≡ address_of ip)
IsAddress word None = (ip : IpAddr) → ¬ IsIpText word ip

-- an address and how many of its bits count, if both are there
abbrev pub prefixed : Option Address → Option ℕ → Token
prefixed (Some a) (Some bits) = token.Prefix a bits
prefixed (Some a) None = token.Unknown
prefixed None bits = token.Unknown

-- an address alone, if it is there
abbrev pub addressed : Option Address → Token
addressed (Some a) = token.Address a
addressed None = token.Unknown

-- The word is an address, or an address, a slash and a number; or nobody knows it.
pub record SpellsAddress (word : List ℕ) (t : Token) : Type 0 where
  pub address : Option Address
  pub is : IsAddress (before slash word) address
  pub says : t ≡ (if has slash word then prefixed address (number_of (beyond slash word))
      else addressed address)
