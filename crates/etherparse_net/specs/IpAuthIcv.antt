-- The integrity check value of an authentication header (RFC 4302 section 2.6).
use Rattle.std.specs.Prelude.{ℕ, ◌≡◌, ◌≢◌, ◌%◌, ◌<◌, ◌≤◌, List, length, Result, Ok, Err}
use Rattle.etherparse_net.specs.declared.err.icv_len_error.IcvLenError.{IcvLenError}
use Rattle.etherparse_net.specs.declared.err.icv_len_error.IcvLenError.TheVariants as refused

-- how many bytes an integrity check value can have: whole words of 4, of which a byte counts those
-- of the header, less two
pub record IsIcvLen (n : ℕ) : Type 0 where
  pub fits : n ≤ 1016
  pub in_words : n % 4 ≡ 0

-- why an integrity check value cannot have so many bytes: too many; or else no whole words
abbrev pub RefusesIcv : ℕ → IcvLenError → Type 0
RefusesIcv n (refused.TooBig len) = (1016 < n) × (len ≡ n)
RefusesIcv n (refused.Unaligned len) = (n ≤ 1016) × (n % 4 ≢ 0) × (len ≡ n)

-- bytes are taken as an integrity check value if it can have so many
abbrev pub TakesIcv : List ℕ → Result (List ℕ) IcvLenError → Type 0
TakesIcv bytes (Ok icv) = IsIcvLen (length bytes) × (icv ≡ bytes)
TakesIcv bytes (Err e) = RefusesIcv (length bytes) e
