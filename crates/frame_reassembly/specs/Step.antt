-- What becomes of the slots of a pool, of the counts and of a frame, once the frame has come.
use Rattle.std.specs.Prelude.{ℕ, ◌≡◌, ◌*◌, ◌^◌, ◌⊎◌, ◌||◌, Bool, false, not, true, List, ◌++◌, None}
use Rattle.std.specs.Prelude.{Option, Some, option_map}
use Rattle.std.specs.Option.{is_none, is_some}
use Rattle.etherparse.specs.Ipv4Header.{IsIpv4Layout}
use Rattle.etherparse.specs.Reading.{HasFront}
use Rattle.etherparse.specs.WordSums.{SumsToAllOnes}
use Rattle.packet.specs.declared.link.LinkType.{LinkType}
use Rattle.packet_reassembly.specs.IpFragment.{IsNoFragment}
use Rattle.packet_reassembly.specs.PacketAdded.{HasTooLongPacket, IsPacketAdded, IsPacketIn}
use Rattle.packet_reassembly.specs.PacketAdded.{RefusesPacket}
use Rattle.packet_reassembly.specs.Pool.{AreSameBut, slot_at}
use Rattle.packet_reassembly.specs.declared.ip_defrag_packet.IpDefragPacketError.{
  IpDefragPacketError,
}
use Rattle.packet_reassembly.specs.declared.ip_defrag_pool.Added.{Added}
use Rattle.packet_reassembly.specs.declared.ip_defrag_pool.DatagramState.{DatagramState}
use Rattle.packet_reassembly.specs.declared.ip_defrag_pool.DatagramState.TheVariants as state
use Rattle.packet_reassembly.specs.declared.ip_defrag_pool.IpDefragSlot.{IpDefragSlot}
use Rattle.frame_reassembly.specs.Carrying.{CarriesNone, CarriesPacket, inner_id, outer_id}
use Rattle.frame_reassembly.specs.Counts.{counted}
use Rattle.frame_reassembly.specs.declared.datagrams.Datagrams.{Datagrams}

-- how long after its first-arriving fragment a datagram is given up, in nanoseconds: 60 seconds
-- (RFC 8200 section 4.5, RFC 1122 section 3.3.2)
abbrev pub reassembly_timeout : ℕ
reassembly_timeout = 60 * 10 ^ 9

-- a datagram begins in the slot that the fragment was added to: none had it, or the one that had it
-- was given up
abbrev pub begins : List IpDefragSlot → Added → Bool
begins old added = is_none (slot_at old added.slot).id || is_some added.given_up

-- The slot is taken from its datagram, and all else in it stays. It tells nothing of the datagram
-- any more: a fragment of it that comes again begins another one, unless a second slot came with
-- its id.
pub record IsReleased (k : ℕ) (old new : List IpDefragSlot) : Type 0 where
  pub others : AreSameBut k old new
  pub free : slot_at new k ≡ record (slot_at old k) { id = None }

-- What becomes of a datagram that is complete: it is put together; or its packet would be too long,
-- and it counts as discarded. It then leaves its slot.
abbrev pub Completes : Bool → ℕ → List IpDefragSlot → List IpDefragSlot → Datagrams → Datagrams
    → Option (List ℕ) → Type 0
Completes begun k added new before after (Some packet) = IsReleased k added new
    × IsPacketIn (slot_at added k) packet × (after ≡ counted begun true false before)
Completes begun k added new before after None = IsReleased k added new
    × HasTooLongPacket (slot_at added k) × (after ≡ counted begun false true before)

-- The same of a datagram in each state, after a fragment with which it began or not, and before
-- which it was discarded or not: it counts as discarded only once.
abbrev pub Follows : DatagramState → Bool → Bool → ℕ → List IpDefragSlot → List IpDefragSlot
    → Datagrams → Datagrams → Option (List ℕ) → Type 0
Follows state.Incomplete begun was k added new before after whole = (new ≡ added)
    × (after ≡ counted begun false false before) × (whole ≡ None)
Follows state.Discarded begun was k added new before after whole = (new ≡ added)
    × (after ≡ counted begun false (not was) before) × (whole ≡ None)
Follows state.Complete begun was k added new before after whole =
    Completes begun k added new before after whole

-- The packet begins with an IPv4 header whose words do not sum to all ones: its checksum is wrong
-- (RFC 791 section 3.1, RFC 1071 section 1). A header of IPv6 has none.
pub record HasWrongHeaderChecksum (packet : List ℕ) : Type 0 where
  pub header : List ℕ
  pub begins : HasFront IsIpv4Layout packet header
  pub wrong : ¬ SumsToAllOnes header

-- the packet is a fragment, its header checksum is not wrong, and it is added to its datagram
pub record TakesFragment (packet : List ℕ) (outer inner : Option ℕ) (now : ℕ)
    (old new : List IpDefragSlot) (before after : Datagrams) (whole : Option (List ℕ))
    : Type 0 where
  pub intact : ¬ HasWrongHeaderChecksum packet
  pub mid : List IpDefragSlot
  pub added : Added
  pub adds : IsPacketAdded old packet outer inner reassembly_timeout now mid added
  pub follows : Follows added.state (begins old added) (is_none (slot_at old added.slot).buf)
      added.slot mid new before after whole

-- It is no fragment, or it is refused; or the checksum of its header is wrong, and a host discards
-- it (RFC 1122 section 3.2.1.2). Nothing changes.
pub record TakesNothing (packet : List ℕ) (old new : List IpDefragSlot)
    (before after : Datagrams) (whole : Option (List ℕ)) : Type 0 where
  pub why : IsNoFragment packet ⊎ ((e : IpDefragPacketError) × RefusesPacket packet e)
      ⊎ HasWrongHeaderChecksum packet
  pub slots : new ≡ old
  pub counts : after ≡ before
  pub none : whole ≡ None

-- What a packet does that came in these VLANs at this time, in nanoseconds; and the packet that it
-- completes, if it does.
abbrev pub TakesPacket : List ℕ → Option ℕ → Option ℕ → ℕ → List IpDefragSlot
    → List IpDefragSlot → Datagrams → Datagrams → Option (List ℕ) → Type 0
TakesPacket packet outer inner now old new before after whole =
    TakesFragment packet outer inner now old new before after whole
    ⊎ TakesNothing packet old new before after whole

-- The same of a frame that carries a packet. The frame that it completes is what stands before that
-- packet, followed by the packet that is completed.
pub record TakesCarried (link_type : LinkType) (frame : List ℕ) (now : ℕ)
    (old new : List IpDefragSlot) (before after : Datagrams) (whole : Option (List ℕ))
    : Type 0 where
  pub front : List ℕ
  pub packet : List ℕ
  pub tags : List (List ℕ)
  pub carries : CarriesPacket link_type frame front packet tags
  pub completed : Option (List ℕ)
  pub takes : TakesPacket packet (outer_id tags) (inner_id tags) now old new before after completed
  pub is_whole : whole ≡ option_map (λ found. front ++ found) completed

-- the frame carries no IP packet: nothing changes
pub record TakesOther (link_type : LinkType) (frame : List ℕ) (old new : List IpDefragSlot)
    (before after : Datagrams) (whole : Option (List ℕ)) : Type 0 where
  pub carries : CarriesNone link_type frame
  pub slots : new ≡ old
  pub counts : after ≡ before
  pub none : whole ≡ None

-- What a frame of this link type does that came at this time, in nanoseconds; and the frame that it
-- completes, if it does.
abbrev pub TakesFrame : LinkType → List ℕ → ℕ → List IpDefragSlot → List IpDefragSlot
    → Datagrams → Datagrams → Option (List ℕ) → Type 0
TakesFrame link_type frame now old new before after whole =
    TakesCarried link_type frame now old new before after whole
    ⊎ TakesOther link_type frame old new before after whole
