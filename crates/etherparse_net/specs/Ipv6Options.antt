-- The options of hop-by-hop and destination options headers of IPv6 (RFC 8200 section 4.2).
use Rattle.std.specs.Prelude.{ℕ, ◌≡◌, ◌≢◌, ◌==◌, ◌+◌, ◌<◌, List, [], length, slice_index}
use Rattle.std.specs.Prelude.{nat_lt, if◌then◌else◌, Option, Result}
use Rattle.etherparse_net.specs.Options.{BeginsWithOptions, CountsOptions}
use Rattle.etherparse_net.specs.Options.{GivesOption, IsOnlyListing, ListsOptions}
use Rattle.etherparse_net.specs.declared.err.incomplete_option.IncompleteOption.{IncompleteOption}

-- The length in bytes of an option, by its type and its second byte. Pad1 (0) is its type alone.
-- Each other option is its type, a byte that counts its data, and the data.
abbrev pub ipv6_option_len : ℕ → ℕ → ℕ
ipv6_option_len option_type second_byte = if option_type == 0 then 1 else 2 + second_byte

-- the bytes are one whole option
pub record IsIpv6Option (option : List ℕ) : Type 0 where
  pub len : length option ≡ ipv6_option_len (slice_index option 0) (slice_index option 1)

-- How many bytes the option at the front of some bytes requires. If the byte that counts its data
-- is not there, two are required.
abbrev pub ipv6_option_required_len : List ℕ → ℕ
ipv6_option_required_len s =
    if slice_index s 0 == 0 then 1
    else (if nat_lt (length s) 2 then 2 else 2 + slice_index s 1)

-- what stands at a place, after whole options, is an option that is cut off
pub record RefusesIpv6Option (place : ℕ) (s : List ℕ) (e : IncompleteOption) : Type 0 where
  pub some : s ≢ []
  pub short : length s < ipv6_option_required_len s
  pub error : e ≡ record {
    option_type = slice_index s 0;
    required_len = ipv6_option_required_len s;
    len = length s;
    offset = place;
  }

-- the list ends with the bytes
abbrev pub EndsIpv6Options : List ℕ → Type 0
EndsIpv6Options rest = rest ≡ []

-- the bytes are these options and a rest
abbrev pub BeginsWithIpv6Options : List ℕ → List (List ℕ) → List ℕ → Type 0
BeginsWithIpv6Options bytes options rest = BeginsWithOptions IsIpv6Option bytes options rest

-- the bytes are these options, one after another, to the end; or to an option that is cut off
abbrev pub ListsIpv6Options : List ℕ → List (List ℕ) → Result (List ℕ) IncompleteOption → Type 0
ListsIpv6Options bytes options end =
    ListsOptions IsIpv6Option EndsIpv6Options RefusesIpv6Option bytes options end

-- the bytes are listed so, and in no other way
abbrev pub IsOnlyIpv6Listing : List ℕ → List (List ℕ) → Result (List ℕ) IncompleteOption → Type 0
IsOnlyIpv6Listing bytes options end =
    IsOnlyListing IsIpv6Option EndsIpv6Options RefusesIpv6Option bytes options end

-- how many options the bytes have, as the one way to list them says; or why it does not end
abbrev pub CountsIpv6Options : List ℕ → Result ℕ IncompleteOption → Type 0
CountsIpv6Options bytes count =
    CountsOptions IsIpv6Option EndsIpv6Options RefusesIpv6Option bytes count

-- what `next` gives at a place, and the place after it
abbrev pub GivesIpv6Option : List ℕ → ℕ → Option (Result (List ℕ) IncompleteOption) → ℕ → Type 0
GivesIpv6Option bytes place found after =
    GivesOption IsIpv6Option EndsIpv6Options RefusesIpv6Option bytes place found after
