-- The numbers of the explicit congestion notification.
use Rattle.std.specs.Prelude.{ℕ}
use Rattle.etherparse_fields.specs.declared.net.ip_ecn.IpEcn.{IpEcn}
use Rattle.etherparse_fields.specs.declared.net.ip_ecn.IpEcn.TheVariants as ecn

-- the number that a header has for a code point (RFC 3168 section 5)
abbrev pub ecn_value : IpEcn → ℕ
ecn_value ecn.NotEct = 0
ecn_value ecn.Ect1 = 1
ecn_value ecn.Ect0 = 2
ecn_value ecn.CongestionExperienced = 3
