-- The checksum of a message of ICMP (RFC 792), which has no pseudo-header.
use Rattle.std.specs.Prelude.{ℕ, List, []}
use Rattle.etherparse_icmp.specs.IcmpChecksum.{IsIcmpChecksum}
use Rattle.etherparse_icmp.specs.Icmpv4.{IsIcmpv4Written}
use Rattle.etherparse_icmp.specs.declared.icmpv4_type.Icmpv4Type.{Icmpv4Type}

-- the checksum of a message of this type with this payload
abbrev pub IsIcmpv4Checksum : Icmpv4Type → List ℕ → ℕ → Type 0
IsIcmpv4Checksum icmp_type payload = IsIcmpChecksum (IsIcmpv4Written icmp_type) [] payload
