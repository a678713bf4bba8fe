-- A view of a message of ICMP (RFC 792).
use Rattle.std.specs.Prelude.{ℕ, ◌≡◌, ◌≤◌, List, drop, length, Result, Ok, Err, slice_index}
use Rattle.etherparse.specs.declared.err.LenError.{LenError}
use Rattle.etherparse_icmp.specs.Icmpv4.{RefusesIcmpv4, icmpv4_len_of}

-- the length of the header of a message, in bytes, as its first two bytes say
abbrev pub icmpv4_len_in : List ℕ → ℕ
icmpv4_len_in message = icmpv4_len_of (slice_index message 0) (slice_index message 1)

-- what follows the header
abbrev pub icmpv4_payload_in : List ℕ → List ℕ
icmpv4_payload_in message = drop (icmpv4_len_in message) message

-- the message is the whole slice, which has all bytes of a header
pub record IsIcmpv4Message (s message : List ℕ) : Type 0 where
  pub enough : 8 ≤ length s
  pub within : icmpv4_len_in s ≤ length s
  pub whole : message ≡ s

-- viewing: the slice is this message; or it is too short for a header
abbrev pub ViewsIcmpv4 : List ℕ → Result (List ℕ) LenError → Type 0
ViewsIcmpv4 s (Ok message) = IsIcmpv4Message s message
ViewsIcmpv4 s (Err e) = RefusesIcmpv4 s e
