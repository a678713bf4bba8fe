-- The original source of an IPv6 packet, which its checksums cover. A mobile node that is away from
-- home and uses route optimization sends from its care-of address; its checksums cover its home
-- address, which stands in a Home Address option (RFC 6275 section 11.3.1).
use Rattle.std.specs.Prelude.{ℕ, ◌≡◌, ◌==◌, ◌&&◌, Bool, MatchBool, List, [], ◌∷◌, Option, Result}
use Rattle.std.specs.Prelude.{IsSomeAnd, Some, drop, if◌then◌else◌, length, slice_index}
use Rattle.etherparse_net.specs.Ipv6Options.{IsOnlyIpv6Listing}
use Rattle.etherparse_net.specs.declared.err.incomplete_option.IncompleteOption.{IncompleteOption}
use Rattle.packet_parts.specs.CoveredAddresses.{FollowsIpv6}

-- A whole option is a Home Address option (RFC 6275 section 6.3): its type is 201, and it has 18
-- bytes: type, length, which MUST be 16, and the address. With another length it is none.
abbrev pub is_home_address : List ℕ → Bool
is_home_address option = (slice_index option 0 == 201) && (length option == 18)

-- the source after an option: a Home Address option makes it the home address
abbrev pub after_option : List ℕ → List ℕ → List ℕ
after_option source option = if is_home_address option then drop 2 option else source

-- The source after options, one after another. If there are several Home Address options, the last
-- one counts; a packet must not have more than one.
abbrev pub after_options : List ℕ → List (List ℕ) → List ℕ
after_options source [] = source
after_options source (option ∷ options) = after_options (after_option source option) options

-- the source after the options in these bytes, up to one that is cut off
pub record HasSourceAfter (source bytes next : List ℕ) : Type 0 where
  pub options : List (List ℕ)
  pub end : Result (List ℕ) IncompleteOption
  pub lists : IsOnlyIpv6Listing bytes options end
  pub is_next : next ≡ after_options source options

-- What an extension header of a number leaves as the source: destination options (60) can make it a
-- home address, also where such an option must not stand (before a routing header, after a fragment
-- header or AH); any other header leaves it as it is.
abbrev pub LeavesSource : List ℕ → ℕ → List ℕ → Option (List ℕ) → Type 0
LeavesSource source number header next = MatchBool (number == 60)
    (IsSomeAnd next (HasSourceAfter source (drop 2 header))) (next ≡ Some source)

-- The original source of an IPv6 packet (RFC 6275 section 11.3.1), from the source of its header,
-- the number of its first extension header and the bytes of all of them.
abbrev pub ComesFromIpv6 : List ℕ → ℕ → List ℕ → Option (List ℕ) → Type 0
ComesFromIpv6 source first extensions original =
    FollowsIpv6 LeavesSource source first extensions original
