-- The addresses that the checksums of an IPv6 packet cover. Extension headers can replace those of
-- its IPv6 header, so an address is followed over them.
use Rattle.std.specs.Prelude.{ℕ, ◌≡◌, ◌==◌, ◌&&◌, ◌≤◌, ◌<◌, Bool, List, Option, Some, None}
use Rattle.std.specs.Prelude.{drop, false, length, nat_le, slice_index, take, true}
use Rattle.etherparse.specs.ExtensionHeaderChain.{required_len_of}
use Rattle.etherparse.specs.ExtensionHeaders.{IsSkippable}

-- a payload header of Shim6 (140): its P bit, the highest of byte 2, is set. Its receiver puts
-- addresses that only the two hosts know into the IPv6 header (RFC 5533 section 5.2)
abbrev pub hides_addresses : ℕ → List ℕ → Bool
hides_addresses number header = (number == 140) && nat_le 128 (slice_index header 2)

-- What becomes of an address over extension headers, from the number of the first one and their
-- bytes. `Leaves address number header next` says which address a whole header leaves; `None` if
-- it leaves an unknown one. The address is unknown too if a header hides it or is incomplete.
pub data FollowsIpv6 (Leaves : List ℕ → ℕ → List ℕ → Option (List ℕ) → Type 0)
    : List ℕ → ℕ → List ℕ → Option (List ℕ) → Type 0 where
  stays : {address s : List ℕ} {number : ℕ}
      → ¬ IsSkippable number → FollowsIpv6 Leaves address number s (Some address)
  passes : {address s next : List ℕ} {number : ℕ} {last : Option (List ℕ)}
      → IsSkippable number → required_len_of number s ≤ length s
      → hides_addresses number (take (required_len_of number s) s) ≡ false
      → Leaves address number (take (required_len_of number s) s) (Some next)
      → FollowsIpv6 Leaves next (slice_index s 0) (drop (required_len_of number s) s) last
      → FollowsIpv6 Leaves address number s last
  is_hidden : {address s : List ℕ} {number : ℕ}
      → IsSkippable number → required_len_of number s ≤ length s
      → hides_addresses number (take (required_len_of number s) s) ≡ true
      → FollowsIpv6 Leaves address number s None
  is_lost : {address s : List ℕ} {number : ℕ}
      → IsSkippable number → required_len_of number s ≤ length s
      → Leaves address number (take (required_len_of number s) s) None
      → FollowsIpv6 Leaves address number s None
  is_incomplete : {address s : List ℕ} {number : ℕ}
      → IsSkippable number → length s < required_len_of number s
      → FollowsIpv6 Leaves address number s None
