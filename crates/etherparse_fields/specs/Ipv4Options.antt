-- The options of an IPv4 header, as the list of their bytes.
use Rattle.std.specs.Prelude.{ℕ, ◌≡◌, ◌≤◌, ◌%◌, List, length, Result, Ok, Err}
use Rattle.etherparse_base.specs.declared.err.ipv4.bad_options_len.BadOptionsLen.{BadOptionsLen}

-- a number of bytes that options can have: at most 40, in words of 4 (RFC 791 section 3.1)
pub record IsOptionsLen (n : ℕ) : Type 0 where
  pub fits : n ≤ 40
  pub in_words : n % 4 ≡ 0

-- bytes are taken as options if options can have that many; otherwise the error has their number
abbrev pub TakesOptions : List ℕ → Result (List ℕ) BadOptionsLen → Type 0
TakesOptions bytes (Ok options) = IsOptionsLen (length bytes) × (options ≡ bytes)
TakesOptions bytes (Err e) =
    (¬ IsOptionsLen (length bytes)) × (e ≡ record { bad_len = length bytes })
