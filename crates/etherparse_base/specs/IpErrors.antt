-- The text of the error of a differentiated services code point.
use Rattle.std.specs.Prelude.{ℕ, List, ◌++◌, codes}
use Rattle.std.specs.Fmt.{decimal}
use Rattle.etherparse_base.specs.declared.err.ip.ip_dscp_unknown_value_error.IpDscpUnknownValueError
    as error

-- the text for a code point that is not a known one
abbrev pub ip_dscp_unknown_value_error_text : error.IpDscpUnknownValueError → List ℕ
ip_dscp_unknown_value_error_text e =
    codes "Error DSCP value '" ++ decimal e.value ++ codes "' is not known."
