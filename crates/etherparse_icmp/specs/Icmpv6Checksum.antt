-- The checksum of a message of ICMPv6 (RFC 4443 section 2.3), with the pseudo-header of IPv6.
use Rattle.std.specs.Prelude.{ℕ, ◌+◌, List, length}
use Rattle.etherparse_icmp.specs.IcmpChecksum.{IsIcmpChecksum}
use Rattle.etherparse_icmp.specs.Icmpv6.{IsIcmpv6Written}
use Rattle.etherparse_icmp.specs.declared.icmpv6_type.Icmpv6Type.{Icmpv6Type}
use Rattle.packet_parts.specs.Checksum.{ipv6_pseudo_header}

-- the checksum of a message of this type with this payload, from the first of two addresses to the
-- second; ICMPv6 is the next header 58, and the length counts the 8 bytes of the header too
abbrev pub IsIcmpv6Checksum : List ℕ → List ℕ → Icmpv6Type → List ℕ → ℕ → Type 0
IsIcmpv6Checksum source destination icmp_type payload = IsIcmpChecksum (IsIcmpv6Written icmp_type)
    (ipv6_pseudo_header source destination 58 (8 + length payload)) payload
