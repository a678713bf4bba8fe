-- An option of IPv6 that is written (RFC 8200 section 4.2).
use Rattle.std.specs.Prelude.{ℕ, ◌≡◌, ◌==◌, ◌+◌, ◌<◌, ◌≤◌, List, [], ◌∷◌, ◌++◌, length}
use Rattle.std.specs.Prelude.{if◌then◌else◌, Result, Ok, Err}
use Rattle.etherparse_net.specs.declared.err.option_write_error.OptionWriteError.{OptionWriteError}
use Rattle.etherparse_net.specs.declared.err.option_write_error.OptionWriteError.TheVariants
    as error

-- the greatest length of the data of an option: Pad1 (0) has none, and of others a byte counts them
abbrev pub ipv6_option_max_data_len : ℕ → ℕ
ipv6_option_max_data_len option_type = if option_type == 0 then 0 else 255

-- the bytes of an option: its type alone for Pad1, otherwise also the length of its data and them
abbrev pub ipv6_option_bytes : ℕ → List ℕ → List ℕ
ipv6_option_bytes option_type bytes =
    if option_type == 0 then option_type ∷ [] else option_type ∷ length bytes ∷ bytes

-- The option is appended to the options before it, if there is room for it; or why not: its data is
-- too long; or else there would be more bytes than there is room for.
abbrev pub AppendsIpv6Option : ℕ → ℕ → List ℕ → List ℕ → Result (List ℕ) OptionWriteError → Type 0
AppendsIpv6Option room option_type bytes before (Ok after) =
    (length bytes ≤ ipv6_option_max_data_len option_type)
    × (after ≡ before ++ ipv6_option_bytes option_type bytes) × (length after ≤ room)
AppendsIpv6Option room option_type bytes before (Err (error.DataTooLong len)) =
    (ipv6_option_max_data_len option_type < length bytes) × (len ≡ length bytes)
AppendsIpv6Option room option_type bytes before (Err (error.NotEnoughSpace len)) =
    (length bytes ≤ ipv6_option_max_data_len option_type) × (room < len)
    × (len ≡ length before + length (ipv6_option_bytes option_type bytes))
