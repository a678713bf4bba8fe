-- What C gets for a packet that is added to a pool, and for one that is written.
use Rattle.std.specs.Prelude.{ℕ, ◌≡◌, ◌≤◌, ◌⊎◌, ◌++◌, List, Option, Some, None, drop, length, take}
use Rattle.std.specs.Prelude.{if◌then◌else◌, nat_lt, replicate}
use Rattle.packet_reassembly.specs.IpFragment.{IsNoFragment}
use Rattle.packet_reassembly.specs.PacketAdded.{HasNoPacket, HasTooLongPacket, IsPacketAdded}
use Rattle.packet_reassembly.specs.PacketAdded.{IsPacketIn, RefusesPacket}
use Rattle.packet_reassembly.specs.declared.ip_defrag_packet.IpDefragPacketError.{
  IpDefragPacketError,
}
use Rattle.packet_reassembly.specs.declared.ip_defrag_pool.Added.{Added}
use Rattle.packet_reassembly.specs.declared.ip_defrag_pool.IpDefragSlot.{IpDefragSlot}
use Rattle.packet_reassembly.specs.declared.ip_frag_id.IpFragId.{IpFragId}
use Rattle.packet_reassembly.specs.declared.ip_frag_id.IpFragVersionSpecId.{IpFragVersionSpecId}
use Rattle.packet_reassembly.specs.declared.ip_frag_id.IpFragVersionSpecId.TheVariants as version
use Rattle.c_answers.specs.DefragAnswer.{state_in_c}
use Rattle.c_answers.specs.DefragError.{no_error, packet_error_in_c, packet_too_long}
use Rattle.c_answers.specs.DefragSlots.{Slots}
use Rattle.c_answers.specs.declared.defrag_added.DefragAdded.{DefragAdded}
use Rattle.c_answers.specs.declared.defrag_added.DefragWritten.{DefragWritten}
use Rattle.c_answers.specs.declared.defrag_added.FragId.{FragId}
use Rattle.c_answers.specs.declared.defrag_error.DefragError.{DefragError}

-- the VLAN identifier that a number says; a greater one says that there is none
abbrev pub vlan_id_of : ℕ → Option ℕ
vlan_id_of number = if nat_lt number 65536 then Some number else None

-- the number of a VLAN identifier
abbrev pub vlan_id_in_c : Option ℕ → ℕ
vlan_id_in_c None = 65536
vlan_id_in_c (Some id) = id

-- no datagram
abbrev pub no_id : FragId
no_id = record {
  outer_vlan_id = 0;
  inner_vlan_id = 0;
  identification = 0;
  version = 0;
  protocol = 0;
  source = replicate 16 0;
  destination = replicate 16 0;
}

-- the fields of an id, with these numbers of VLAN identifiers; an address of IPv4 has 0 after it
abbrev pub ip_id_in_c : ℕ → ℕ → IpFragVersionSpecId → FragId
ip_id_in_c outer inner (version.Ipv4 source destination protocol identification) = record {
  outer_vlan_id = outer;
  inner_vlan_id = inner;
  identification = identification;
  version = 4;
  protocol = protocol;
  source = source ++ replicate 12 0;
  destination = destination ++ replicate 12 0;
}
ip_id_in_c outer inner (version.Ipv6 source destination identification) = record {
  outer_vlan_id = outer;
  inner_vlan_id = inner;
  identification = identification;
  version = 6;
  protocol = 0;
  source = source;
  destination = destination;
}

abbrev pub id_in_c : IpFragId → FragId
id_in_c id = ip_id_in_c (vlan_id_in_c id.outer_vlan_id) (vlan_id_in_c id.inner_vlan_id) id.ip

-- that of the datagram that was given up
abbrev pub given_up_in_c : Option IpFragId → FragId
given_up_in_c None = no_id
given_up_in_c (Some id) = id_in_c id

-- what became of a packet that was added
abbrev pub added_in_c : Added → DefragAdded
added_in_c added = record {
  error = no_error;
  slot = added.slot;
  state = state_in_c added.state;
  given_up = given_up_in_c added.given_up;
}

-- of one that was not
abbrev pub not_added : DefragError → DefragAdded
not_added e = record { error = e; slot = 0; state = 3; given_up = no_id }

-- the packet is added, and C gets what became of it
pub record IsPacketAddedInC (old : Slots) (packet : List ℕ) (outer inner : Option ℕ)
    (now : ℕ) (new : Slots) (answer : DefragAdded) : Type 0 where
  pub added : Added
  pub is_added : IsPacketAdded old.slots packet outer inner old.timeout now new.slots added
  pub in_c : answer ≡ added_in_c added

-- it is no fragment, and nothing changes
pub record IsNoFragmentInC (old : Slots) (packet : List ℕ) (new : Slots)
    (answer : DefragAdded) : Type 0 where
  pub is_none : IsNoFragment packet
  pub in_c : answer ≡ not_added no_error
  pub unchanged : new.slots ≡ old.slots

-- it is refused, nothing changes, and C gets the library's error
pub record IsPacketRefusedInC (old : Slots) (packet : List ℕ) (new : Slots)
    (answer : DefragAdded) : Type 0 where
  pub e : IpDefragPacketError
  pub refuses : RefusesPacket packet e
  pub in_c : answer ≡ not_added (packet_error_in_c e)
  pub unchanged : new.slots ≡ old.slots

-- the slots once a packet has come, and what C gets
abbrev pub AddsPacketInC : Slots → List ℕ → Option ℕ → Option ℕ → ℕ → Slots
    → DefragAdded → Type 0
AddsPacketInC old packet outer inner now new answer =
    IsPacketAddedInC old packet outer inner now new answer
    ⊎ IsNoFragmentInC old packet new answer ⊎ IsPacketRefusedInC old packet new answer

-- the packet is at the front of the buffer, and what follows it there stays
pub record IsPacketWrittenInC (slot : IpDefragSlot) (before after : List ℕ)
    (answer : DefragWritten) : Type 0 where
  pub packet : IsPacketIn slot (take answer.len after)
  pub within : answer.len ≤ length after
  pub rest : drop answer.len after ≡ drop answer.len before
  pub no_error : answer.error ≡ no_error

-- there is none yet, and nothing is written
pub record HasNoPacketInC (slot : IpDefragSlot) (before after : List ℕ) (answer : DefragWritten)
    : Type 0 where
  pub none : HasNoPacket slot
  pub in_c : answer ≡ record { len = 0; error = no_error }
  pub unchanged : after ≡ before

-- it would be too long, and nothing is written
pub record HasTooLongPacketInC (slot : IpDefragSlot) (before after : List ℕ)
    (answer : DefragWritten) : Type 0 where
  pub long : HasTooLongPacket slot
  pub in_c : answer ≡ record { len = 0; error = packet_too_long }
  pub unchanged : after ≡ before

-- the packet of the datagram in a slot, and what C gets
abbrev pub WritesPacketInC : IpDefragSlot → List ℕ → List ℕ → DefragWritten → Type 0
WritesPacketInC slot before after answer = IsPacketWrittenInC slot before after answer
    ⊎ HasNoPacketInC slot before after answer ⊎ HasTooLongPacketInC slot before after answer
