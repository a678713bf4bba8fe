-- Echo messages of ICMP (RFC 792) and of ICMPv6 (RFC 4443 sections 4.1 and 4.2).
use Rattle.std.specs.Prelude.{ℕ, ◌≡◌, ◌≤◌, ◌-◌, List, ◌∷◌, ◌++◌, length, drop, slice_index}
use Rattle.std.specs.Int.{to_le_bytes, w16}
use Rattle.etherparse.specs.WordSums.{ones_complement_sum}

-- the message is an echo request: at least 8 bytes, of its type, with code 0
pub record IsEchoRequest (request_type : ℕ) (message : List ℕ) : Type 0 where
  pub enough : 8 ≤ length message
  pub type : slice_index message 0 ≡ request_type
  pub code : slice_index message 1 ≡ 0

-- The reply to a request, with this checksum: its type; code 0; the checksum in two bytes; and all
-- that came after that of the request: the identifier, the sequence number and the data. The low
-- byte of the checksum comes first, as that of each word in the sum (RFC 1071 section 2 (B)).
abbrev pub echo_reply : ℕ → ℕ → List ℕ → List ℕ
echo_reply reply_type checksum request =
    reply_type ∷ 0 ∷ (to_le_bytes w16 checksum ++ drop 4 request)

-- The reply to a request whose checksum is over these pieces: the complement of their sum, in which
-- the reply has 0 in its place (RFC 792, RFC 4443 section 2.3).
abbrev pub IsEchoReply : ℕ → List ℕ → List (List ℕ) → List ℕ → Type 0
IsEchoReply reply_type request pieces reply =
    reply ≡ echo_reply reply_type (65535 - ones_complement_sum pieces) request
