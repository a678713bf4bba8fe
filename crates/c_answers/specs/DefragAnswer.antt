-- What C gets for the fragments of one datagram.
use Rattle.std.specs.Prelude.{ℕ, ◌≡◌, ◌⊎◌, ◌++◌, List, Option, drop, length, nat_le}
use Rattle.std.specs.Prelude.{if◌then◌else◌}
use Rattle.packet_reassembly.specs.Fragment.{Fragment, IsRight, Takes}
use Rattle.packet_reassembly.specs.Pool.{IsState}
use Rattle.packet_reassembly.specs.Refusal.{Refuses}
use Rattle.packet_reassembly.specs.declared.ip_defrag_error.IpDefragError.{IpDefragError}
use Rattle.packet_reassembly.specs.declared.ip_defrag_pool.DatagramState.{DatagramState}
use Rattle.packet_reassembly.specs.declared.ip_defrag_pool.DatagramState.TheVariants as state
use Rattle.c_answers.specs.DefragError.{fragment_error_in_c, no_error}
use Rattle.c_answers.specs.declared.defrag_error.DefragError.{DefragError}

-- a datagram can have the fragment, which is taken
pub record IsTakenInC (old : Option (List Fragment)) (f : Fragment) (new : Option (List Fragment))
    (answer : DefragError) : Type 0 where
  pub right : IsRight f
  pub takes : Takes old f new
  pub no_error : answer ≡ no_error

-- none can, nothing changes, and C gets the library's error
pub record IsRefusedInC (old : Option (List Fragment)) (f : Fragment) (new : Option (List Fragment))
    (answer : DefragError) : Type 0 where
  pub e : IpDefragError
  pub refuses : Refuses f e
  pub in_c : answer ≡ fragment_error_in_c e
  pub unchanged : new ≡ old

-- what is kept once a fragment has come, and what C gets
abbrev pub AddsInC : Option (List Fragment) → Fragment → Option (List Fragment) → DefragError
    → Type 0
AddsInC old f new answer = IsTakenInC old f new answer ⊎ IsRefusedInC old f new answer

-- the number of a state
abbrev pub state_in_c : DatagramState → ℕ
state_in_c state.Incomplete = 0
state_in_c state.Complete = 1
state_in_c state.Discarded = 2

-- the number of what is known of the datagram
pub record IsStateInC (kept : Option (List Fragment)) (answer : ℕ) : Type 0 where
  pub state : DatagramState
  pub is_state : IsState kept state
  pub in_c : answer ≡ state_in_c state

-- a buffer with these bytes at its front, if there is room for them
abbrev pub with_front : List ℕ → List ℕ → List ℕ
with_front bytes before =
    if nat_le (length bytes) (length before) then bytes ++ drop (length bytes) before else before

-- the bytes are in the buffer, if there is room, and the answer is how many they are
pub record IsWrittenOut (bytes before after : List ℕ) (answer : ℕ) : Type 0 where
  pub len : answer ≡ length bytes
  pub written : after ≡ with_front bytes before
