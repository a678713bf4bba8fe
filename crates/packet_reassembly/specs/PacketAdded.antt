-- A packet whose fragment is added to a pool.
use Rattle.std.specs.Prelude.{ℕ, ◌≡◌, ◌<◌, ◌≤◌, ◌==◌, ◌⊎◌, List, Option, None, Some, length}
use Rattle.std.specs.Prelude.{if◌then◌else◌}
use Rattle.etherparse.specs.declared.err.ValueTooBigError.{ValueTooBigError}
use Rattle.packet_reassembly.specs.Ecn.{ecn_of}
use Rattle.packet_reassembly.specs.Fragment.{Fragment, IsRight, IsWhole, fragment}
use Rattle.packet_reassembly.specs.HeaderChain.{HasWholeChain, LacksChain}
use Rattle.packet_reassembly.specs.Headers.{IsErrorFor, IsPacketOf, IsTooLongFor}
use Rattle.packet_reassembly.specs.IpFragment.{HasIpFragment, RefusesIpFragment}
use Rattle.packet_reassembly.specs.Pool.{IsAdded, OthersStay}
use Rattle.packet_reassembly.specs.Refusal.{Refuses}
use Rattle.packet_reassembly.specs.declared.ip_defrag_error.IpDefragError.{IpDefragError}
use Rattle.packet_reassembly.specs.declared.ip_defrag_packet.IpDefragPacketError.{
  IpDefragPacketError,
}
use Rattle.packet_reassembly.specs.declared.ip_defrag_packet.IpDefragPacketError.TheVariants as why
use Rattle.packet_reassembly.specs.declared.ip_defrag_pool.Added.{Added}
use Rattle.packet_reassembly.specs.declared.ip_defrag_pool.IpDefragSlot.{IpDefragSlot}
use Rattle.packet_reassembly.specs.declared.ip_frag_id.IpFragId.{IpFragId}
use Rattle.packet_reassembly.specs.declared.ip_frag_id.IpFragVersionSpecId.{IpFragVersionSpecId}
use Rattle.packet_reassembly.specs.declared.ip_frag_id.IpFragVersionSpecId.TheVariants as version
use Rattle.packet_reassembly.specs.declared.ip_fragment_slice.IpFragmentSlice.{IpFragmentSlice}

-- the fragment that a packet is, as one of its datagram
abbrev pub fragment_of_packet : IpFragmentSlice → Fragment
fragment_of_packet f = fragment f.offset f.more_fragments f.payload.now

-- the datagram that it is of, in these VLANs
abbrev pub id_of : Option ℕ → Option ℕ → IpFragmentSlice → IpFragId
id_of outer inner f = record { outer_vlan_id = outer; inner_vlan_id = inner; ip = f.ip }

-- these are the fields of an IPv6 packet
abbrev pub IsIpv6 : IpFragVersionSpecId → Type 0
IsIpv6 (version.Ipv4 source destination protocol identification) = ⊥
IsIpv6 (version.Ipv6 source destination identification) = Unit {0}

-- It is the first of an IPv6 packet. The whole header chain has to be in it (RFC 7112 section 5).
abbrev pub IsFirstOfIpv6 : IpFragmentSlice → Type 0
IsFirstOfIpv6 f = IsIpv6 f.ip × (f.offset ≡ 0)

-- the headers that it brings: those of its packet, if it is the first of its datagram
abbrev pub headers_of : IpFragmentSlice → Option (List ℕ)
headers_of f = if f.offset == 0 then Some f.headers.now else None

-- if it is the first of its datagram, there is room for its headers
abbrev pub HasShortHeaders : IpFragmentSlice → Type 0
HasShortHeaders f = f.offset ≡ 0 → length f.headers.now ≤ 1280

-- The packet is a fragment that a datagram can have, and that fragment is added, with the ECN
-- codepoint of its IP header. If it is the first one at offset 0, its headers are.
pub record IsPacketAdded (old : List IpDefragSlot) (packet : List ℕ) (outer inner : Option ℕ)
    (timeout now : ℕ) (new : List IpDefragSlot) (added : Added) : Type 0 where
  pub f : IpFragmentSlice
  pub has : HasIpFragment packet f
  pub chain : IsFirstOfIpv6 f → HasWholeChain f.next_header f.payload.now
  pub short : HasShortHeaders f
  pub right : IsRight (fragment_of_packet f)
  pub is_added : IsAdded old (id_of outer inner f) timeout now (fragment_of_packet f)
      (headers_of f) (ecn_of f.ecn) added new
  pub others : OthersStay old (id_of outer inner f) added.given_up new

-- it is the first fragment of an IPv6 packet, and lacks a part of the header chain
pub record HasLackingChain (packet : List ℕ) : Type 0 where
  pub f : IpFragmentSlice
  pub has : HasIpFragment packet f
  pub first : IsFirstOfIpv6 f
  pub lacks : LacksChain f.next_header f.payload.now

-- it is the first fragment of a datagram, and has headers of this length, for which there is no
-- room
pub record HasLongHeaders (packet : List ℕ) (len : ℕ) : Type 0 where
  pub f : IpFragmentSlice
  pub has : HasIpFragment packet f
  pub chain : IsFirstOfIpv6 f → HasWholeChain f.next_header f.payload.now
  pub first : f.offset ≡ 0
  pub is_len : len ≡ length f.headers.now
  pub long : 1280 < len

-- it is a fragment that no datagram can have
pub record HasRefusedFragment (packet : List ℕ) (e : IpDefragError) : Type 0 where
  pub f : IpFragmentSlice
  pub has : HasIpFragment packet f
  pub chain : IsFirstOfIpv6 f → HasWholeChain f.next_header f.payload.now
  pub short : HasShortHeaders f
  pub refused : Refuses (fragment_of_packet f) e

-- why nothing is added: the first of these that holds
abbrev pub RefusesPacket : List ℕ → IpDefragPacketError → Type 0
RefusesPacket packet (why.Packet e) = RefusesIpFragment packet e
RefusesPacket packet why.HeaderChain = HasLackingChain packet
RefusesPacket packet (why.HeadersTooLong len) = HasLongHeaders packet len
RefusesPacket packet (why.Fragment e) = HasRefusedFragment packet e

-- the bytes are the packet of the datagram in the slot, which is complete
pub record IsPacketIn (slot : IpDefragSlot) (packet : List ℕ) : Type 0 where
  pub datagram : List ℕ
  pub whole : IsWhole slot.buf datagram
  pub has : IsPacketOf slot.headers slot.ecn datagram packet

-- the datagram in the slot is complete, and its packet would be too long
pub record HasTooLongPacket (slot : IpDefragSlot) : Type 0 where
  pub datagram : List ℕ
  pub whole : IsWhole slot.buf datagram
  pub long : IsTooLongFor slot.headers datagram

-- the datagram in the slot is complete, and this is the error of its packet
pub record HasErrorOfPacket (slot : IpDefragSlot) (e : ValueTooBigError ℕ) : Type 0 where
  pub datagram : List ℕ
  pub whole : IsWhole slot.buf datagram
  pub error : IsErrorFor slot.headers datagram e

-- the datagram in the slot is not complete, or the headers of its first fragment have not come
abbrev pub HasNoPacket : IpDefragSlot → Type 0
HasNoPacket slot = ((datagram : List ℕ) → ¬ IsWhole slot.buf datagram) ⊎ (slot.headers ≡ None)
