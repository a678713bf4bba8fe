-- What a host sends before a payload.
use Rattle.std.specs.Prelude.{ℕ, ◌≡◌, ◌+◌, List, length}
use Rattle.etherparse.specs.HeaderChecksum.{header_checksum_of}
use Rattle.etherparse.specs.Ipv4Header.{IsIpv4LayoutWith}
use Rattle.etherparse.specs.declared.net.ipv4_header.Ipv4Header.{Ipv4Header}

-- The bytes are the header with these options, the total length for this payload, and the checksum
-- that it should have; all else is as in the header.
pub record IsFrontFor (header : Ipv4Header) (options payload bytes : List ℕ) : Type 0 where
  pub checksum : ℕ
  pub computed : checksum ≡ header_checksum_of bytes
  pub written : IsIpv4LayoutWith (record header {
    options = options;
    total_len = 20 + length options + length payload;
    header_checksum = checksum;
  }) 0 bytes
