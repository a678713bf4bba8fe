-- The errors of options: their texts, and what of them is hashed.
use Rattle.std.specs.Prelude.{ℕ, List, ◌++◌, codes}
use Rattle.std.specs.Hash as fed
use Rattle.std.specs.Fmt.{decimal}
use Rattle.etherparse_net.specs.declared.err.incomplete_option.IncompleteOption.{IncompleteOption}
use Rattle.etherparse_net.specs.declared.err.ipv4_option_error.Ipv4OptionError.{Ipv4OptionError}
use Rattle.etherparse_net.specs.declared.err.ipv4_option_error.Ipv4OptionError.TheVariants as error
use Rattle.etherparse_net.specs.declared.err.option_write_error.OptionWriteError.{OptionWriteError}
use Rattle.etherparse_net.specs.declared.err.option_write_error.OptionWriteError.TheVariants
    as unwritten

-- the text of an option that is cut off
abbrev pub incomplete_option_text : IncompleteOption → List ℕ
incomplete_option_text e =
    codes "IP Option Error: The option of type '" ++ (decimal e.option_type
    ++ (codes "' at byte " ++ (decimal e.offset ++ (codes " is cut off. "
    ++ (decimal e.required_len ++ (codes " byte(s) would be required, but only "
    ++ (decimal e.len ++ codes " byte(s) are available.")))))))

-- the text of options of IPv4 that do not go on
abbrev pub ipv4_option_error_text : Ipv4OptionError → List ℕ
ipv4_option_error_text (error.Incomplete e) = incomplete_option_text e
ipv4_option_error_text (error.LengthBelowTwo option_type option_length offset) =
    codes "IP Option Error: The option of type '" ++ (decimal option_type
    ++ (codes "' at byte " ++ (decimal offset ++ (codes " has the length '"
    ++ (decimal option_length ++ codes "' (minimum allowed value is '2').")))))

-- the text of an option that is not written
abbrev pub option_write_error_text : OptionWriteError → List ℕ
option_write_error_text (unwritten.DataTooLong len) =
    codes "IPv6 Option Error: The data has '" ++ (decimal len
    ++ codes "' byte(s), which is more than an option of its type can have.")
option_write_error_text (unwritten.NotEnoughSpace len) =
    codes "IPv6 Option Error: Not enough space to write the option. Needed " ++ (decimal len
    ++ codes " byte(s).")

-- An option that is cut off is hashed by all its fields,
abbrev pub incomplete_option_writes : IncompleteOption → List (List ℕ)
incomplete_option_writes e = fed.u8 e.option_type
    ++ (fed.usize e.required_len ++ (fed.usize e.len ++ fed.usize e.offset))

-- any other error after the number of its kind.
abbrev pub ipv4_option_error_writes : Ipv4OptionError → List (List ℕ)
ipv4_option_error_writes (error.Incomplete e) = fed.usize 0 ++ incomplete_option_writes e
ipv4_option_error_writes (error.LengthBelowTwo option_type option_length offset) =
    fed.usize 1 ++ (fed.u8 option_type ++ (fed.u8 option_length ++ fed.usize offset))

abbrev pub option_write_error_writes : OptionWriteError → List (List ℕ)
option_write_error_writes (unwritten.DataTooLong len) = fed.usize 0 ++ fed.usize len
option_write_error_writes (unwritten.NotEnoughSpace len) = fed.usize 1 ++ fed.usize len
