-- The differentiated services code points that are known by name, and their numbers.
use Rattle.std.specs.Prelude.{ℕ, ◌≡◌, ◌≢◌, Result, Ok, Err}
use Rattle.etherparse_base.specs.declared.err.ip.ip_dscp_unknown_value_error.IpDscpUnknownValueError
    as error
use Rattle.etherparse_fields.specs.declared.net.ip_dscp_known.IpDscpKnown.{IpDscpKnown}
use Rattle.etherparse_fields.specs.declared.net.ip_dscp_known.IpDscpKnown.TheVariants as known

-- The number of each known code point: the class selectors (RFC 2474 section 4.2.2), assured
-- forwarding (RFC 2597 section 6), expedited forwarding (RFC 3246), voice admit (RFC 5865) and
-- lower effort (RFC 8622). All that is said about known code points is said by this table.
abbrev pub code_point_of : IpDscpKnown → ℕ
code_point_of known.ClassSelector0 = 0
code_point_of known.ClassSelector1 = 8
code_point_of known.ClassSelector2 = 16
code_point_of known.ClassSelector3 = 24
code_point_of known.ClassSelector4 = 32
code_point_of known.ClassSelector5 = 40
code_point_of known.ClassSelector6 = 48
code_point_of known.ClassSelector7 = 56
code_point_of known.AfGroup11 = 10
code_point_of known.AfGroup12 = 12
code_point_of known.AfGroup13 = 14
code_point_of known.AfGroup21 = 18
code_point_of known.AfGroup22 = 20
code_point_of known.AfGroup23 = 22
code_point_of known.AfGroup31 = 26
code_point_of known.AfGroup32 = 28
code_point_of known.AfGroup33 = 30
code_point_of known.AfGroup41 = 34
code_point_of known.AfGroup42 = 36
code_point_of known.AfGroup43 = 38
code_point_of known.ExpeditedForwarding = 46
code_point_of known.VoiceAdmit = 44
code_point_of known.LowerEffort = 1

-- no known code point has the number
abbrev pub IsUnknown : ℕ → Type 0
IsUnknown number = (point : IpDscpKnown) → code_point_of point ≢ number

-- a number is taken as the known code point that has it, or else refused with an error that has it
abbrev pub TakesKnown : ℕ → Result IpDscpKnown error.IpDscpUnknownValueError → Type 0
TakesKnown number (Ok point) = code_point_of point ≡ number
TakesKnown number (Err e) = IsUnknown number × (e ≡ record { value = number })
