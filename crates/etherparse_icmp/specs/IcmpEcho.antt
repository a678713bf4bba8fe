-- What tells echo messages apart (RFC 792, RFC 4443 section 4.1).
use Rattle.std.specs.Prelude.{ℕ, ◌≡◌, List, slice_range}
use Rattle.std.specs.Int.{from_be_bytes, w16}
use Rattle.etherparse_icmp.specs.declared.icmp_echo_header.IcmpEchoHeader.{IcmpEchoHeader}

-- the 4 bytes after the checksum: the identifier, and the sequence number
pub record HasEcho (echo : IcmpEchoHeader) (rest : List ℕ) : Type 0 where
  pub id : from_be_bytes w16 (slice_range rest 0 2) ≡ echo.id
  pub seq : from_be_bytes w16 (slice_range rest 2 4) ≡ echo.seq
