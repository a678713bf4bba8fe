-- What a forwarder does to a packet.
use Rattle.std.specs.Prelude.{ℕ, ◌≡◌, ◌+◌, ◌-◌, ◌*◌, ◌^◌, ◌<◌, ◌≤◌, ◌↔◌, List, [], ◌∷◌, Ok, ◌++◌}
use Rattle.etherparse.specs.HeaderChecksum.{BecomesPacketOf, with_field_and_checksum}
use Rattle.etherparse.specs.Ipv4Header.{IsIpv4Layout, IsIpv4LayoutWith, ReadsIpv4}
use Rattle.etherparse.specs.IpEcn.{ecn_value}
use Rattle.etherparse.specs.Ipv4Header.{ipv4_first_word, with_reserved_bit_cleared}
use Rattle.etherparse.specs.Ipv6Header.{IsIpv6Layout, ReadsIpv6}
use Rattle.etherparse.specs.Reading.{BeginsWith}
use Rattle.etherparse.specs.WordSums.{SumsToAllOnes, updated_checksum}
use Rattle.etherparse.specs.declared.net.ipv4_header.Ipv4Header.{Ipv4Header}
use Rattle.etherparse.specs.declared.net.ipv6_header.Ipv6Header.{Ipv6Header}

-- The bytes that are sent are the header of the packet with one hop less, and all else as it was,
-- including the checksum; they are read as that header, whatever follows.
pub record IsNextIpv4Hop (packet sent : List ℕ) : Type 0 where
  pub header : Ipv4Header
  pub rest : List ℕ
  pub begins : BeginsWith IsIpv4Layout packet header rest
  pub may_go_on : 1 < header.time_to_live
  pub written : IsIpv4LayoutWith (record header { time_to_live = header.time_to_live - 1 }) 0 sent
  pub read_back : (after : List ℕ) → ReadsIpv4 (sent ++ after)
      (Ok (record header { time_to_live = header.time_to_live - 1 }, after))

-- the packet may go no further
pub record IsLastIpv4Hop (packet : List ℕ) : Type 0 where
  pub header : Ipv4Header
  pub rest : List ℕ
  pub begins : BeginsWith IsIpv4Layout packet header rest
  pub last : header.time_to_live ≤ 1

-- the same of IPv6, by the hop limit
pub record IsNextIpv6Hop (packet sent : List ℕ) : Type 0 where
  pub header : Ipv6Header
  pub rest : List ℕ
  pub begins : BeginsWith IsIpv6Layout packet header rest
  pub may_go_on : 1 < header.hop_limit
  pub read_back : (after : List ℕ) → ReadsIpv6 (sent ++ after)
      (Ok (record header { hop_limit = header.hop_limit - 1 }, after))

-- the packet may go no further
pub record IsLastIpv6Hop (packet : List ℕ) : Type 0 where
  pub header : Ipv6Header
  pub rest : List ℕ
  pub begins : BeginsWith IsIpv6Layout packet header rest
  pub last : header.hop_limit ≤ 1

-- the header with one hop less, its checksum updated for that alone (RFC 1624 section 3)
abbrev pub with_one_hop_less : Ipv4Header → Ipv4Header
with_one_hop_less header = record header {
  time_to_live = header.time_to_live - 1;
  header_checksum = updated_checksum header.header_checksum
      (header.time_to_live * 2 ^ 8 + header.protocol)
      ((header.time_to_live - 1) * 2 ^ 8 + header.protocol);
}

-- The packet goes on as these bytes and the rest: the header with one hop less, written again and
-- so with the reserved bit 0. The bytes sum to all ones exactly when the received ones do, once
-- their reserved bit is cleared.
pub record IsForwardedIpv4 (packet sent rest : List ℕ) : Type 0 where
  pub header : Ipv4Header
  pub begins : BeginsWith IsIpv4Layout packet header rest
  pub may_go_on : 1 < header.time_to_live
  pub next : Ipv4Header
  pub set : next ≡ with_one_hop_less header
  pub written : IsIpv4LayoutWith next 0 sent
  pub right : SumsToAllOnes (with_reserved_bit_cleared begins.front) ↔ SumsToAllOnes sent

-- The packet goes on with only bytes 8, 10 and 11 changed, to those of the header with one hop
-- less. The header's bytes sum to all ones exactly when they did before.
pub record IsForwardedInPlace (packet sent : List ℕ) : Type 0 where
  pub header : Ipv4Header
  pub rest : List ℕ
  pub begins : BeginsWith IsIpv4Layout packet header rest
  pub may_go_on : 1 < header.time_to_live
  pub next : Ipv4Header
  pub set : next ≡ with_one_hop_less header
  pub changed : sent
      ≡ with_field_and_checksum 8 (next.time_to_live ∷ []) next.header_checksum packet
  pub written : BecomesPacketOf packet
      (with_field_and_checksum 8 (next.time_to_live ∷ []) next.header_checksum packet) next rest

-- the header with another code point, its checksum updated for that alone
abbrev pub with_dscp : ℕ → Ipv4Header → Ipv4Header
with_dscp dscp header = record header {
  dscp = dscp;
  header_checksum = updated_checksum header.header_checksum (ipv4_first_word header)
      (ipv4_first_word (record header { dscp = dscp }));
}

-- The packet has another code point, with only bytes 1, 10 and 11 changed. The header's bytes sum
-- to all ones exactly when they did before.
pub record IsMarkedInPlace (dscp : ℕ) (packet marked : List ℕ) : Type 0 where
  pub header : Ipv4Header
  pub rest : List ℕ
  pub begins : BeginsWith IsIpv4Layout packet header rest
  pub next : Ipv4Header
  pub set : next ≡ with_dscp dscp header
  pub changed : marked ≡ with_field_and_checksum 1 ((dscp * 2 ^ 2 + ecn_value header.ecn) ∷ [])
      next.header_checksum packet
  pub written : BecomesPacketOf packet (with_field_and_checksum 1
      ((dscp * 2 ^ 2 + ecn_value header.ecn) ∷ []) next.header_checksum packet) next rest
