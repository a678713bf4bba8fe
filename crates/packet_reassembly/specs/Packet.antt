-- The packet that fragments were cut from (RFC 791 section 3.2, RFC 8200 section 4.5).
use Rattle.std.specs.Prelude.{ℕ, ◌≡◌, ◌+◌, ◌++◌, List, [], ◌∷◌, length, false}
use Rattle.etherparse.specs.ExtensionHeaderChain.{FollowsChain, IsExtensionHeader}
use Rattle.etherparse.specs.HeaderChecksum.{header_checksum_of}
use Rattle.etherparse.specs.Ipv4Header.{IsIpv4Layout, ipv4_header_len}
use Rattle.etherparse.specs.Ipv6Header.{IsIpv6Layout}
use Rattle.etherparse.specs.Reading.{BeginsWith}
use Rattle.etherparse.specs.declared.net.ipv4_header.Ipv4Header.{Ipv4Header}
use Rattle.etherparse.specs.declared.net.ipv6_header.Ipv6Header.{Ipv6Header}

-- The packet is the header of the fragment at offset 0 and the payload: the total length counts
-- both, it is no fragment, the reserved bit is 0, and the checksum is that of the header.
pub record IsIpv4Packet (first : Ipv4Header) (payload packet : List ℕ) : Type 0 where
  pub header : Ipv4Header
  pub begins : BeginsWith IsIpv4Layout packet header payload
  pub fields : header ≡ record first {
    total_len = ipv4_header_len first + length payload;
    more_fragments = false;
    fragment_offset = 0;
    header_checksum = header.header_checksum;
  }
  pub reserved : begins.layout.reserved ≡ 0
  pub checksum : header.header_checksum ≡ header_checksum_of begins.front

-- the bytes are a chain of extension headers, the last of which names a number
abbrev pub IsChain : ℕ → List ℕ → ℕ → Type 0
IsChain first bytes number = FollowsChain bytes first number []

-- The extension headers before a fragment header: those before the last, which are a chain, and the
-- last, whose number they end with. What the last one names, or the IPv6 header if there is none,
-- is not asked: it names the fragment header, and the packet has another number in that place.
abbrev pub AreUnfragmentable : ℕ → List ℕ → List ℕ → Type 0
AreUnfragmentable first before [] = before ≡ []
AreUnfragmentable first before (byte ∷ rest) =
    (number : ℕ) × IsChain first before number × IsExtensionHeader number (byte ∷ rest)

-- the extension header, with another number for what follows it: its first byte
abbrev pub with_next_header : ℕ → List ℕ → List ℕ
with_next_header number [] = []
with_next_header number (_ ∷ rest) = number ∷ rest

-- what the IPv6 header names: that number, if it named the fragment header
abbrev pub named_by_header : ℕ → List ℕ → ℕ → ℕ
named_by_header first [] number = number
named_by_header first (_ ∷ rest) number = first

-- The packet is the IPv6 header and the extension headers before the fragment header of the
-- fragment at offset 0, and the payload. The payload length counts all after the IPv6 header. What
-- named the fragment header names what that named: so the payload follows a chain of whole headers.
pub record IsIpv6Packet (first : Ipv6Header) (before last : List ℕ) (number : ℕ)
    (payload packet : List ℕ) : Type 0 where
  pub header : Ipv6Header
  pub body : List ℕ
  pub begins : BeginsWith IsIpv6Layout packet header body
  pub fields : header ≡ record first {
    payload_length = length before + length last + length payload;
    next_header = named_by_header first.next_header last number;
  }
  pub parts : body ≡ before ++ (with_next_header number last ++ payload)
  pub chain : FollowsChain body header.next_header number payload
