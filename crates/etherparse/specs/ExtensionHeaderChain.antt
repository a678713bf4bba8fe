-- IPv6 extension headers one after the other, and the walk past them (RFC 8200 section 4).
use Rattle.std.specs.Prelude.{ℕ, ◌≡◌, ◌==◌, ◌+◌, ◌-◌, ◌*◌, ◌<◌, ◌≤◌, List, [], ◌∷◌, ◌++◌, length}
use Rattle.std.specs.Prelude.{slice_index, nat_lt, if◌then◌else◌, IfErr, IfOk, Result, Ok, Err}
use Rattle.std.specs.List.{concat}
use Rattle.std.specs.Result.{result_map_both}
use Rattle.etherparse_base.specs.LenError.{len_error_moved}
use Rattle.etherparse_base.specs.declared.err.ipv6.chain_error.ChainError.{ChainError}
use Rattle.etherparse_base.specs.declared.err.ipv6.chain_error.ChainError.TheVariants as chain_error
use Rattle.etherparse_base.specs.declared.err.layer.Layer.TheVariants as layer
use Rattle.etherparse_base.specs.declared.err.len_error.LenError.{LenError}
use Rattle.etherparse_fields.specs.ExtensionHeaders.{IsSkippable}
use Rattle.etherparse.specs.Reading.{too_short_error}

-- The length in bytes of an extension header, by its number and its second byte. A fragment header
-- has 8 (RFC 8200 section 4.5). The second byte of an authentication header counts words of four
-- bytes, less two of them (RFC 4302 section 2.2). The second byte of the others counts units of
-- eight bytes, less the first (RFC 8200 sections 4.3, 4.4 and 4.6; for 135 RFC 6275 section 6.1.1,
-- for 139 RFC 7401 section 5.1, for 140 RFC 5533 section 5.1).
abbrev pub extension_header_len : ℕ → ℕ → ℕ
extension_header_len number second_byte =
    if number == 44 then 8
    else (if number == 51 then (second_byte + 2) * 4
    else (second_byte + 1) * 8)

-- the bytes are one whole extension header of this number
pub record IsExtensionHeader (number : ℕ) (header : List ℕ) : Type 0 where
  pub skippable : IsSkippable number
  pub len : length header ≡ extension_header_len number (slice_index header 1)

-- How many bytes the header of a number requires of a slice that begins with it. If there are fewer
-- than two, two are required, even for a fragment header, as in the Rust crate.
abbrev pub required_len_of : ℕ → List ℕ → ℕ
required_len_of number s =
    if nat_lt (length s) 2 then 2 else extension_header_len number (slice_index s 1)

-- Extension headers: the first has this number, each other one has the number that the first byte
-- of the one before it gives, and the last gives that number. With no header both are the same.
abbrev pub IsExtensionHeaderChain : ℕ → List (List ℕ) → ℕ → Type 0
IsExtensionHeaderChain first [] last = last ≡ first
IsExtensionHeaderChain first (header ∷ headers) last =
    IsExtensionHeader first header × IsExtensionHeaderChain (slice_index header 0) headers last

-- the slice is a chain of extension headers, and the rest after them
pub record BeginsWithChain (s : List ℕ) (first : ℕ) (headers : List (List ℕ)) (last : ℕ)
    (rest : List ℕ) : Type 0 where
  pub chain : IsExtensionHeaderChain first headers last
  pub whole : s ≡ concat headers ++ rest

-- the rest, of this number, follows a chain at the front of the slice; the chain can be empty
pub record FollowsChain (s : List ℕ) (first number : ℕ) (rest : List ℕ) : Type 0 where
  pub headers : List (List ℕ)
  pub begins : BeginsWithChain s first headers number rest

-- the error of an extension header that is incomplete at an offset
abbrev pub incomplete_header_error : ℕ → List ℕ → ℕ → LenError
incomplete_header_error number rest offset =
    record (too_short_error layer.Ipv6ExtHeader (required_len_of number rest) (length rest)) {
      layer_start_offset = offset;
    }

-- a number and the bytes that it describes, or why an extension header is incomplete
abbrev pub WalkAnswer : Type 0
WalkAnswer = Result (ℕ × List ℕ) LenError

-- The walk ends after a chain if there are fewer bytes than the header of its last number requires.
-- The offset in the error is where that header starts.
pub record EndsIncomplete (s : List ℕ) (first : ℕ) (headers : List (List ℕ)) (e : LenError)
    : Type 0 where
  pub last : ℕ
  pub rest : List ℕ
  pub begins : BeginsWithChain s first headers last rest
  pub skippable : IsSkippable last
  pub short : length rest < required_len_of last rest
  pub error : e ≡ incomplete_header_error last rest (length (concat headers))

-- Where a walk of a slice from a first number ends, with the headers before that and the answer:
-- after a chain whose last number cannot be skipped, or at an incomplete header.
abbrev pub Ends : List ℕ → ℕ → List (List ℕ) → WalkAnswer → Type 0
Ends s first headers (Ok x) = BeginsWithChain s first headers x.0 x.1 × ¬ IsSkippable x.0
Ends s first headers (Err e) = EndsIncomplete s first headers e

-- walking: the answer where the walk ends, past some headers
pub record Walks (s : List ℕ) (first : ℕ) (answer : WalkAnswer) : Type 0 where
  pub headers : List (List ℕ)
  pub ends : Ends s first headers answer

-- The walk of a slice from a first number has this answer, and no other. What is left is no longer
-- than the slice, and the offset of an error is within it.
pub record IsOnlyWalkOf (s : List ℕ) (first : ℕ) (answer : WalkAnswer) : Type 0 where
  pub walks : Walks s first answer
  pub only : (other : WalkAnswer) → Walks s first other → other ≡ answer
  pub shorter : IfOk answer (λ x. length x.1 ≤ length s)
  pub within : IfErr answer (λ e. e.layer_start_offset ≤ length s)

-- the same as one fact, which a proof opens with a line `unfolding`
unfoldable pub IsWalkOf : List ℕ → ℕ → WalkAnswer → Type 0
IsWalkOf s first answer = IsOnlyWalkOf s first answer

-- after a chain at the front of a slice, this is the walk of that slice, with an error moved
abbrev pub IsWalkAfterChains : List ℕ → ℕ → WalkAnswer → Type 0
IsWalkAfterChains rest number answer = (s : List ℕ) (first : ℕ) → FollowsChain s first number rest
    → IsWalkOf s first
    (result_map_both (λ x. x) (λ e. len_error_moved (length s - length rest) e) answer)

-- the answer of a walk that goes past at most a given number of headers: this limit is our own
abbrev pub LimitedWalkAnswer : Type 0
LimitedWalkAnswer = Result (ℕ × List ℕ) ChainError

-- The walk ends after a chain of as many headers as the limit, whose last number is that of one
-- more, whatever bytes are left for it. The error says where that header starts.
pub record EndsAtLimit (limit : ℕ) (s : List ℕ) (first : ℕ) (headers : List (List ℕ))
    (e : ChainError) : Type 0 where
  pub last : ℕ
  pub rest : List ℕ
  pub begins : BeginsWithChain s first headers last rest
  pub full : length headers ≡ limit
  pub skippable : IsSkippable last
  pub error : e ≡ chain_error.TooMany limit last (length (concat headers))

-- Where a walk with a limit ends: after a chain of no more headers than that; or at an incomplete
-- header, with fewer before it; or at the limit.
abbrev pub EndsUpTo : ℕ → List ℕ → ℕ → List (List ℕ) → LimitedWalkAnswer → Type 0
EndsUpTo limit s first headers (Ok x) = Ends s first headers (Ok x) × (length headers ≤ limit)
EndsUpTo limit s first headers (Err (chain_error.Len e)) =
    EndsIncomplete s first headers e × (length headers < limit)
EndsUpTo limit s first headers (Err e) = EndsAtLimit limit s first headers e

-- walking with a limit: the answer where the walk ends, past some headers
pub record WalksUpTo (limit : ℕ) (s : List ℕ) (first : ℕ) (answer : LimitedWalkAnswer)
    : Type 0 where
  pub headers : List (List ℕ)
  pub ends : EndsUpTo limit s first headers answer
