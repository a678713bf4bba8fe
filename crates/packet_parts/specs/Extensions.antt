-- The extension headers of IPv6 in one pass (RFC 8200 sections 4 and 4.5): where they end, and
-- which fragment header decides.
use Rattle.std.specs.Prelude.{ℕ, ◌≡◌, ◌≢◌, ◌-◌, ◌<◌, ◌≤◌, Bool, false, true, List, Option, Some}
use Rattle.std.specs.Prelude.{None, drop, if◌then◌else◌, length, slice_index}
use Rattle.std.specs.Option.{option_or}
use Rattle.etherparse.specs.ExtensionHeaderChain.{incomplete_header_error, required_len_of}
use Rattle.etherparse.specs.ExtensionHeaders.{IsSkippable}
use Rattle.etherparse.specs.Reading.{BeginsWith}
use Rattle.etherparse.specs.declared.err.LenError.{LenError}
use Rattle.etherparse_net.specs.Ipv6FragmentHeader.{IsFragmentLayout, is_part}
use Rattle.etherparse_net.specs.declared.ipv6_fragment_header.Ipv6FragmentHeader.{
  Ipv6FragmentHeader,
}

-- A fragment header decides unless it is atomic: a packet with an atomic one is processed as
-- without it (RFC 8200 section 4.5, RFC 6946).
abbrev pub deciding : Ipv6FragmentHeader → Option Ipv6FragmentHeader
deciding header = if is_part header then Some header else None

-- What is reached after extension headers at the front of a slice, of which the first has this
-- number: the fragment header that decides, the first of these that does; a number; and the rest
-- that it tells of. Each header that is passed is whole. After a fragment header whose offset is
-- not 0 comes the middle of a payload: nothing after it is a header.
pub data Passes (s : List ℕ) (first : ℕ) : Option Ipv6FragmentHeader → ℕ → List ℕ → Type 0 where
  at_front : Passes s first None first s
  after_other : {decided : Option Ipv6FragmentHeader} {number : ℕ} {rest : List ℕ}
      → Passes s first decided number rest → IsSkippable number → number ≢ 44
      → required_len_of number rest ≤ length rest
      → Passes s first decided (slice_index rest 0) (drop (required_len_of number rest) rest)
  after_fragment : {decided : Option Ipv6FragmentHeader} {at rest : List ℕ}
      {next : Ipv6FragmentHeader}
      → Passes s first decided 44 at → BeginsWith IsFragmentLayout at next rest
      → next.fragment_offset ≡ 0
      → Passes s first (option_or decided (deciding next)) next.next_header rest

-- The last header is the fragment header of a fragment that is not the first. Extension headers and
-- the header of the upper layer, which can follow that of the first fragment, are in the first
-- alone (RFC 8200 section 4.5). The payload is what follows it, whatever the number that it names.
pub record EndsAtLaterFragment (s : List ℕ) (first : ℕ) (decided : Option Ipv6FragmentHeader)
    (number : ℕ) (payload : List ℕ) : Type 0 where
  pub before : Option Ipv6FragmentHeader
  pub at : List ℕ
  pub last : Ipv6FragmentHeader
  pub passes : Passes s first before 44 at
  pub begins : BeginsWith IsFragmentLayout at last payload
  pub later : last.fragment_offset ≢ 0
  pub decides : decided ≡ option_or before (deciding last)
  pub named : number ≡ last.next_header

-- the slice ends within an extension header of this number, of which the rest is there
pub record EndsInHeader (s : List ℕ) (first : ℕ) (decided : Option Ipv6FragmentHeader) (number : ℕ)
    (rest : List ℕ) : Type 0 where
  pub passes : Passes s first decided number rest
  pub skippable : IsSkippable number
  pub short : length rest < required_len_of number rest

-- Where the extension headers end, and whether the payload is that of a later fragment: before a
-- number that is of none that can be skipped; after the fragment header of a later fragment; or
-- within a header, with the error of that.
abbrev pub EndsAs : Bool → Option LenError → List ℕ → ℕ → Option Ipv6FragmentHeader → ℕ → List ℕ
    → Type 0
EndsAs false None s first decided number rest =
    Passes s first decided number rest × ¬ IsSkippable number
EndsAs true None s first decided number rest = EndsAtLaterFragment s first decided number rest
EndsAs false (Some e) s first decided number rest = EndsInHeader s first decided number rest
    × (e ≡ incomplete_header_error number rest (length s - length rest))
EndsAs true (Some e) s first decided number rest = ⊥
