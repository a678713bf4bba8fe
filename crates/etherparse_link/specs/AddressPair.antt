-- What a contract sees of the two hardware addresses, or the two protocol addresses, of an ARP
-- packet (RFC 826).
use Rattle.std.specs.Prelude.{ℕ, ◌≡◌, ◌≤◌, List, length}
use Rattle.etherparse.specs.Bytes.{IsBytes}

pub record Addresses : Type 0 where
  pub sender : List ℕ
  pub target : List ℕ

-- two addresses can stand in one packet: one length, a byte, is said of both
pub record HaveOneLength (sender target : List ℕ) : Type 0 where
  pub same : length sender ≡ length target
  pub within : length sender ≤ 255

-- what every pair in a packet keeps
pub record IsAddressPair (sender target : List ℕ) : Type 0 where
  pub len : HaveOneLength sender target
  pub sender_bytes : IsBytes sender
  pub target_bytes : IsBytes target
