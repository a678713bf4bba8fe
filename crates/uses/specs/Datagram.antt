-- What a host asks of the UDP datagram in a packet of either version.
use Rattle.std.specs.Prelude.{ℕ, ◌≡◌, ◌≢◌, ◌⊎◌, Bool, false, true, List}
use Rattle.packet_parts.specs.Checksum.{IsVerdict}
use Rattle.packet_parts.specs.IpSlice.{IsIpPacket}
use Rattle.packet_parts.specs.declared.checksum.Absence.TheVariants as absence
use Rattle.packet_parts.specs.declared.checksum.Verdict.TheVariants.{Right, Wrong, Absent}
use Rattle.packet_parts.specs.declared.ip_slice.IpSlice.{IpSlice}

-- a receiver finds the payload right, or has no checksum to judge it by (RFC 768); or finds it
-- wrong
abbrev pub IsFoundRight : IpSlice → Bool → Type 0
IsFoundRight parts true = IsVerdict parts Right ⊎ IsVerdict parts (Absent absence.NotComputed)
IsFoundRight parts false = IsVerdict parts Wrong

-- the packet has a datagram, and a receiver finds it right, or not
pub record HasDatagram (packet : List ℕ) (is_right : Bool) : Type 0 where
  pub parts : IpSlice
  pub is_packet : IsIpPacket packet parts
  pub is_udp : parts.upper ≡ 17
  pub found : IsFoundRight parts is_right

-- the payload of the packet is of another protocol, a fragment, or no whole datagram, or it is not
-- known where the packet goes in the end
pub record HasNoDatagram (packet : List ℕ) : Type 0 where
  pub parts : IpSlice
  pub is_packet : IsIpPacket packet parts
  pub why : (parts.upper ≢ 17) ⊎ IsVerdict parts (Absent absence.Fragment)
      ⊎ IsVerdict parts (Absent absence.Incomplete)
      ⊎ IsVerdict parts (Absent absence.UnknownDestination)
