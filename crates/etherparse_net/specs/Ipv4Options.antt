-- The options of an IPv4 header (RFC 791 section 3.1).
use Rattle.std.specs.Prelude.{ℕ, ◌≡◌, ◌≢◌, ◌<◌, ◌≤◌, ◌⊎◌, List, [], length, slice_index}
use Rattle.std.specs.Prelude.{Option, Result}
use Rattle.etherparse_net.specs.Options.{BeginsWithOptions, CountsOptions}
use Rattle.etherparse_net.specs.Options.{GivesOption, IsOnlyListing, ListsOptions}
use Rattle.etherparse_net.specs.declared.err.incomplete_option.IncompleteOption.{IncompleteOption}
use Rattle.etherparse_net.specs.declared.err.ipv4_option_error.Ipv4OptionError.{Ipv4OptionError}
use Rattle.etherparse_net.specs.declared.err.ipv4_option_error.Ipv4OptionError.TheVariants as error

-- The bytes are one whole option: a type octet alone, which is that of no operation (1); or a type
-- octet, a length octet that counts both of these and the data, and the data. The type of the end
-- of the list (0) is of no option in it.
pub record IsIpv4Option (option : List ℕ) : Type 0 where
  pub is_option : slice_index option 0 ≢ 0
  pub alone : slice_index option 0 ≡ 1 → length option ≡ 1
  pub counted : slice_index option 0 ≢ 1 → length option ≡ slice_index option 1
  pub counts_both : slice_index option 0 ≢ 1 → 2 ≤ length option

-- an option that has a length octet stands at the front of some bytes
pub record HasLengthOctet (s : List ℕ) : Type 0 where
  pub is_option : slice_index s 0 ≢ 0
  pub not_alone : slice_index s 0 ≢ 1

-- the error of an option that is cut off
abbrev pub cut_off_error : ℕ → List ℕ → ℕ → IncompleteOption
cut_off_error place s required_len = record {
  option_type = slice_index s 0;
  required_len = required_len;
  len = length s;
  offset = place;
}

-- Why what stands at a place, after whole options, is no option: its length octet is not there; or
-- else that octet counts fewer than the type and itself; or else there are fewer bytes than it
-- says.
abbrev pub RefusesIpv4Option : ℕ → List ℕ → Ipv4OptionError → Type 0
RefusesIpv4Option place s (error.Incomplete e) = HasLengthOctet s
    × (((length s ≡ 1) × (e ≡ cut_off_error place s 2))
    ⊎ ((2 ≤ slice_index s 1) × (2 ≤ length s) × (length s < slice_index s 1)
    × (e ≡ cut_off_error place s (slice_index s 1))))
RefusesIpv4Option place s (error.LengthBelowTwo option_type option_length offset) =
    HasLengthOctet s × (2 ≤ length s) × (slice_index s 1 < 2)
    × (option_type ≡ slice_index s 0) × (option_length ≡ slice_index s 1) × (offset ≡ place)

-- the list ends with the bytes, or at the type octet 0, whatever follows that
abbrev pub EndsIpv4Options : List ℕ → Type 0
EndsIpv4Options rest = (rest ≡ []) ⊎ ((1 ≤ length rest) × (slice_index rest 0 ≡ 0))

-- the bytes are these options and a rest
abbrev pub BeginsWithIpv4Options : List ℕ → List (List ℕ) → List ℕ → Type 0
BeginsWithIpv4Options bytes options rest = BeginsWithOptions IsIpv4Option bytes options rest

-- the bytes are these options, one after another, to the end of the list; or to what is no option
abbrev pub ListsIpv4Options : List ℕ → List (List ℕ) → Result (List ℕ) Ipv4OptionError → Type 0
ListsIpv4Options bytes options end =
    ListsOptions IsIpv4Option EndsIpv4Options RefusesIpv4Option bytes options end

-- the bytes are listed so, and in no other way
abbrev pub IsOnlyIpv4Listing : List ℕ → List (List ℕ) → Result (List ℕ) Ipv4OptionError → Type 0
IsOnlyIpv4Listing bytes options end =
    IsOnlyListing IsIpv4Option EndsIpv4Options RefusesIpv4Option bytes options end

-- how many options the bytes have, as the one way to list them says; or why it does not end
abbrev pub CountsIpv4Options : List ℕ → Result ℕ Ipv4OptionError → Type 0
CountsIpv4Options bytes count =
    CountsOptions IsIpv4Option EndsIpv4Options RefusesIpv4Option bytes count

-- what `next` gives at a place, and the place after it
abbrev pub GivesIpv4Option : List ℕ → ℕ → Option (Result (List ℕ) Ipv4OptionError) → ℕ → Type 0
GivesIpv4Option bytes place found after =
    GivesOption IsIpv4Option EndsIpv4Options RefusesIpv4Option bytes place found after
