-- What an extension header of IPv6 has after its first two bytes (RFC 8200 sections 4.3, 4.4 and
-- 4.6).
use Rattle.std.specs.Prelude.{ℕ, ◌≡◌, ◌≢◌, ◌%◌, ◌<◌, ◌≤◌, List, length, Result, Ok, Err}
use Rattle.etherparse_net.specs.declared.err.ext_payload_len_error.ExtPayloadLenError.{
  ExtPayloadLenError,
}
use Rattle.etherparse_net.specs.declared.err.ext_payload_len_error.ExtPayloadLenError.TheVariants
    as refused

-- How many bytes can follow the first two: with them they are whole units of 8, of which a byte
-- counts those after the first.
pub record IsExtPayloadLen (n : ℕ) : Type 0 where
  pub least : 6 ≤ n
  pub greatest : n ≤ 2046
  pub in_units : n % 8 ≡ 6

-- why so many bytes cannot follow the first two: too few; or else too many; or else no whole units
abbrev pub RefusesExtPayload : ℕ → ExtPayloadLenError → Type 0
RefusesExtPayload n (refused.TooSmall len) = (n < 6) × (len ≡ n)
RefusesExtPayload n (refused.TooBig len) = (2046 < n) × (len ≡ n)
RefusesExtPayload n (refused.Unaligned len) =
    (6 ≤ n) × (n ≤ 2046) × (n % 8 ≢ 6) × (len ≡ n)

-- bytes are taken as what follows the first two if there can be so many
abbrev pub TakesExtPayload : List ℕ → Result (List ℕ) ExtPayloadLenError → Type 0
TakesExtPayload bytes (Ok payload) = IsExtPayloadLen (length bytes) × (payload ≡ bytes)
TakesExtPayload bytes (Err e) = RefusesExtPayload (length bytes) e
