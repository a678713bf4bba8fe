-- A view of a message of ICMPv6 (RFC 4443).
use Rattle.std.specs.Prelude.{ℕ, ◌≡◌, ◌≤◌, List, length, Result, Ok, Err}
use Rattle.etherparse.specs.Reading.{IsTooShort}
use Rattle.etherparse.specs.declared.err.LenError.{LenError}
use Rattle.etherparse.specs.declared.err.Layer.TheVariants as layer

-- the message is the whole slice, which has the 8 bytes of a header
pub record IsIcmpv6Message (s message : List ℕ) : Type 0 where
  pub enough : 8 ≤ length s
  pub whole : message ≡ s

-- viewing: the slice is this message; or it is too short for a header
abbrev pub ViewsIcmpv6 : List ℕ → Result (List ℕ) LenError → Type 0
ViewsIcmpv6 s (Ok message) = IsIcmpv6Message s message
ViewsIcmpv6 s (Err e) = IsTooShort layer.Icmpv6 8 s e
