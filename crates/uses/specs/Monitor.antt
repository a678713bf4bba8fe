-- What a monitor that puts fragments together has of a packet that it sees.
use Rattle.std.specs.Prelude.{ℕ, ◌≡◌, ◌≢◌, ◌≤◌, ◌⊎◌, List, None, drop, length, take}
use Rattle.packet_reassembly.specs.IpFragment.{IsNoFragment}
use Rattle.packet_reassembly.specs.PacketAdded.{HasTooLongPacket, IsPacketAdded, IsPacketIn}
use Rattle.packet_reassembly.specs.PacketAdded.{RefusesPacket}
use Rattle.packet_reassembly.specs.Pool.{AreSameBut, slot_at}
use Rattle.packet_reassembly.specs.declared.ip_defrag_packet.IpDefragPacketError.{
  IpDefragPacketError,
}
use Rattle.packet_reassembly.specs.declared.ip_defrag_pool.Added.{Added}
use Rattle.packet_reassembly.specs.declared.ip_defrag_pool.DatagramState.TheVariants.{Complete}
use Rattle.packet_reassembly.specs.declared.ip_defrag_pool.IpDefragSlot.{IpDefragSlot}
use Rattle.uses.specs.declared.monitor.Seen.{Seen}
use Rattle.uses.specs.declared.monitor.Seen.TheVariants as seen

-- it completes a datagram, whose packet these bytes are
pub record Completes (slots : List IpDefragSlot) (packet : List ℕ) (timeout now : ℕ)
    (bytes : List ℕ) : Type 0 where
  pub after : List IpDefragSlot
  pub added : Added
  pub is_added : IsPacketAdded slots packet None None timeout now after added
  pub has : IsPacketIn (slot_at after added.slot) bytes

-- it completes none, or one whose packet would be too long
pub record Waits (slots : List IpDefragSlot) (packet : List ℕ) (timeout now : ℕ) : Type 0 where
  pub after : List IpDefragSlot
  pub added : Added
  pub is_added : IsPacketAdded slots packet None None timeout now after added
  pub state : (added.state ≢ Complete) ⊎ HasTooLongPacket (slot_at after added.slot)

-- what the monitor has: the packet is whole; or it completes a datagram; or it is refused, or waits
abbrev pub IsSeen : List IpDefragSlot → List ℕ → ℕ → ℕ → List ℕ → Seen → Type 0
IsSeen slots packet timeout now out seen.Whole = IsNoFragment packet
IsSeen slots packet timeout now out (seen.PutTogether len) =
    Completes slots packet timeout now (take len out)
IsSeen slots packet timeout now out seen.Nothing =
    ((e : IpDefragPacketError) × RefusesPacket packet e) ⊎ Waits slots packet timeout now

-- nothing is added: the packet is whole, or it is refused
pub record AddsNothing (before : List IpDefragSlot) (packet : List ℕ)
    (after : List IpDefragSlot) : Type 0 where
  pub stay : after ≡ before
  pub why : IsNoFragment packet ⊎ ((e : IpDefragPacketError) × RefusesPacket packet e)

-- its fragment is added, and completes no datagram
pub record AddsFragment (before : List IpDefragSlot) (packet : List ℕ) (timeout now : ℕ)
    (after : List IpDefragSlot) : Type 0 where
  pub added : Added
  pub is_added : IsPacketAdded before packet None None timeout now after added
  pub state : added.state ≢ Complete

-- its fragment is added, and completes a datagram, whose slot is free again
pub record FreesDatagram (before : List IpDefragSlot) (packet : List ℕ) (timeout now : ℕ)
    (after : List IpDefragSlot) : Type 0 where
  pub full : List IpDefragSlot
  pub added : Added
  pub is_added : IsPacketAdded before packet None None timeout now full added
  pub state : added.state ≡ Complete
  pub others : AreSameBut added.slot full after
  pub free : slot_at after added.slot ≡ record (slot_at full added.slot) { id = None }

-- what is in the pool after a packet
abbrev pub HasPoolAfter : List IpDefragSlot → List ℕ → ℕ → ℕ → List IpDefragSlot → Type 0
HasPoolAfter before packet timeout now after = AddsNothing before packet after
    ⊎ AddsFragment before packet timeout now after ⊎ FreesDatagram before packet timeout now after

-- what is written: the packet of the datagram, at the front; or nothing
abbrev pub WritesSeen : Seen → List ℕ → List ℕ → Type 0
WritesSeen seen.Whole before after = after ≡ before
WritesSeen (seen.PutTogether len) before after =
    (len ≤ length after) × (drop len after ≡ drop len before)
WritesSeen seen.Nothing before after = after ≡ before
