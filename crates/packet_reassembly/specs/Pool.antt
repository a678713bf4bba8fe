-- Many datagrams at once.
use Rattle.std.specs.Prelude.{ℕ, ◌≡◌, ◌≢◌, ◌+◌, ◌<◌, ◌≤◌, ◌⊎◌, List, [], length, slice_index_or}
use Rattle.std.specs.Prelude.{Option, Some, None, Contains}
use Rattle.std.specs.Option.{option_or}
use Rattle.packet_reassembly.specs.Ecn.{IsDropped, ecn_with, no_ecn}
use Rattle.packet_reassembly.specs.Fragment.{Fragment, IsWhole, Takes}
use Rattle.packet_reassembly.specs.declared.fragment_ecn.FragmentEcn.{FragmentEcn}
use Rattle.packet_reassembly.specs.declared.ip_defrag_pool.Added.{Added}
use Rattle.packet_reassembly.specs.declared.ip_defrag_pool.DatagramState.{DatagramState}
use Rattle.packet_reassembly.specs.declared.ip_defrag_pool.DatagramState.TheVariants as state
use Rattle.packet_reassembly.specs.declared.ip_defrag_pool.IpDefragSlot.{IpDefragSlot}
use Rattle.packet_reassembly.specs.declared.ip_frag_id.IpFragId.{IpFragId}

-- a slot that no datagram has, which is what there is past the last
abbrev pub no_slot : IpDefragSlot
no_slot = record { id = None; ecn = no_ecn; since = 0; headers = None; buf = Some [] }

abbrev pub slot_at : List IpDefragSlot → ℕ → IpDefragSlot
slot_at slots k = slice_index_or slots k no_slot

-- the datagram with this id has the slot
abbrev pub Has : List IpDefragSlot → ℕ → IpFragId → Type 0
Has slots k id = (k < length slots) × ((slot_at slots k).id ≡ Some id)

-- its first-arriving fragment came so long ago that it is given up
abbrev pub IsExpired : IpDefragSlot → ℕ → ℕ → Type 0
IsExpired slot timeout now = slot.since + timeout ≤ now

-- it is the first of those that the datagram has: calls give it one, but slots can come with more
abbrev pub HasFirst : List IpDefragSlot → ℕ → IpFragId → Type 0
HasFirst slots k id = Has slots k id × ((j : ℕ) → j < k → ¬ Has slots j id)

-- the slot that a new datagram takes: the first that none has, or else that of the oldest datagram,
-- the first of those that are equally old
pub record IsFree (slots : List IpDefragSlot) (k : ℕ) : Type 0 where
  pub within : k < length slots
  pub first : (((slot_at slots k).id ≡ None) × ((j : ℕ) → j < k → (slot_at slots j).id ≢ None))
      ⊎ ((j : ℕ) → j < length slots → ((slot_at slots j).id ≢ None)
      × ((slot_at slots k).since ≤ (slot_at slots j).since)
      × (j < k → (slot_at slots k).since < (slot_at slots j).since))

-- all other slots are as they were
abbrev pub AreSameBut : ℕ → List IpDefragSlot → List IpDefragSlot → Type 0
AreSameBut k old new = (length new ≡ length old)
    × ((j : ℕ) → j ≢ k → slot_at new j ≡ slot_at old j)

-- the datagram goes on in the slot that it has
pub record GoesOn (old : List IpDefragSlot) (id : IpFragId) (timeout now k : ℕ)
    (given_up : Option IpFragId) : Type 0 where
  pub has : HasFirst old k id
  pub young : ¬ IsExpired (slot_at old k) timeout now
  pub none : given_up ≡ None

-- it begins in a slot, from which another one, or its own that is too old, is given up
pub record Begins (old : List IpDefragSlot) (id : IpFragId) (timeout now k : ℕ)
    (given_up : Option IpFragId) : Type 0 where
  pub place : (HasFirst old k id × IsExpired (slot_at old k) timeout now)
      ⊎ (((j : ℕ) → ¬ Has old j id) × IsFree old k)
  pub gives_up : given_up ≡ (slot_at old k).id

-- the slot for the datagram is this one, and holds what has come of it
pub record IsPlaced (old : List IpDefragSlot) (id : IpFragId) (timeout now k : ℕ)
    (given_up : Option IpFragId) (new : List IpDefragSlot) : Type 0 where
  pub others : AreSameBut k old new
  pub has : Has new k id
  pub place : (GoesOn old id timeout now k given_up
      × ((slot_at new k).since ≡ (slot_at old k).since)
      × ((slot_at new k).headers ≡ (slot_at old k).headers)
      × ((slot_at new k).ecn ≡ (slot_at old k).ecn)
      × ((slot_at new k).buf ≡ (slot_at old k).buf))
      ⊎ (Begins old id timeout now k given_up
      × ((slot_at new k).since ≡ now) × ((slot_at new k).headers ≡ None)
      × ((slot_at new k).ecn ≡ no_ecn)
      × ((slot_at new k).buf ≡ Some []))

-- what is known of the datagram
abbrev pub IsState : Option (List Fragment) → DatagramState → Type 0
IsState kept state.Incomplete = (kept ≢ None) × ((datagram : List ℕ) → ¬ IsWhole kept datagram)
IsState kept state.Complete = (datagram : List ℕ) × IsWhole kept datagram
IsState kept state.Discarded = kept ≡ None

-- What is kept once a fragment has come, of a datagram whose fragments then have these codepoints:
-- nothing, for good, if its packet is dropped; otherwise what they say by themselves.
abbrev pub TakesWith : FragmentEcn → Option (List Fragment) → Fragment → Option (List Fragment)
    → Type 0
TakesWith ecn old f new = (IsDropped ecn → new ≡ None) × ((¬ IsDropped ecn) → Takes old f new)

-- The slots, once a fragment of the datagram with this id has come, with its codepoint, and with it
-- maybe the headers of the first one. The headers that came before stay.
pub record IsAdded (old : List IpDefragSlot) (id : IpFragId) (timeout now : ℕ) (f : Fragment)
    (headers : Option (List ℕ)) (ecn : FragmentEcn) (added : Added) (new : List IpDefragSlot)
    : Type 0 where
  pub others : AreSameBut added.slot old new
  pub has : Has new added.slot id
  pub takes : (GoesOn old id timeout now added.slot added.given_up
      × ((slot_at new added.slot).since ≡ (slot_at old added.slot).since)
      × ((slot_at new added.slot).headers ≡ option_or (slot_at old added.slot).headers headers)
      × ((slot_at new added.slot).ecn ≡ ecn_with (slot_at old added.slot).ecn ecn)
      × TakesWith (slot_at new added.slot).ecn (slot_at old added.slot).buf f
      (slot_at new added.slot).buf)
      ⊎ (Begins old id timeout now added.slot added.given_up
      × ((slot_at new added.slot).since ≡ now)
      × ((slot_at new added.slot).headers ≡ headers)
      × ((slot_at new added.slot).ecn ≡ ecn)
      × TakesWith (slot_at new added.slot).ecn (Some []) f (slot_at new added.slot).buf)
  pub state : IsState (slot_at new added.slot).buf added.state

-- Every other datagram that had a slot has it still, with what has come of it, except the one that
-- was given up.
abbrev pub OthersStay : List IpDefragSlot → IpFragId → Option IpFragId → List IpDefragSlot → Type 0
OthersStay old id given_up new = (j : ℕ) (other : IpFragId) → Has old j other → other ≢ id
    → given_up ≢ Some other → slot_at new j ≡ slot_at old j

-- the headers of the first fragment are there, if a fragment at offset 0 has come
pub record HasFirstHeaders (slot : IpDefragSlot) : Type 0 where
  pub known : (kept : List Fragment) (f : Fragment) → slot.buf ≡ Some kept → Contains kept f
      → f.start ≡ 0 → slot.headers ≢ None

-- those of each datagram are, as they are if all its fragments came by `add_packet`
pub record HaveFirstHeaders (slots : List IpDefragSlot) : Type 0 where
  pub each : (k : ℕ) (id : IpFragId) → Has slots k id → HasFirstHeaders (slot_at slots k)
