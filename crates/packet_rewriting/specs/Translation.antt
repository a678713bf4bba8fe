-- Address translation (RFC 3022).
use Rattle.std.specs.Prelude.{ℕ, ◌≡◌, List}
use Rattle.etherparse.specs.HeaderChecksum.{KeepsChecksum}
use Rattle.etherparse.specs.WordSums.{updated_checksum_of_words}
use Rattle.etherparse.specs.declared.net.ipv4_header.Ipv4Header.{Ipv4Header}
use Rattle.packet_parts.specs.FinalDestination.{GoesToIpv4}

-- The header becomes the one with another address in it, its checksum updated for that alone (RFC
-- 1624 section 3): a receiver finds it right exactly when it was before.
pub record Readdresses (old new readdressed : Ipv4Header) (address other : List ℕ) : Type 0 where
  pub set : new ≡ record readdressed {
    header_checksum = updated_checksum_of_words 2 old.header_checksum address other;
  }
  pub keeps_checksum : KeepsChecksum old new

-- what is true of the final destinations before and after a header gets another destination; a
-- source route can keep them the same
abbrev pub OfFinal : Ipv4Header → List ℕ → (List ℕ → List ℕ → Type 0) → Type 0
OfFinal header destination P = (old new : List ℕ) → GoesToIpv4 header.destination header.options old
    → GoesToIpv4 destination header.options new → P old new
