-- The fields of a struct are those of one header.
use Rattle.std.proofs.Common.{ℕ, ◌≡◌, List, rules}
use Rattle.etherparse.specs.Ipv4Header.{IsIpv4LayoutWith}
use Rattle.etherparse.specs.declared.net.ipv4_header.Ipv4Header.{Ipv4Header}
use Rattle.etherparse_c.specs.Ipv4.{AreWrittenForIpv4, StandForIpv4}
use Rattle.etherparse_c.specs.declared.ipv4_header.Ipv4Fields.{Ipv4Fields}

-- the bytes written for the fields have the layout of each header with these fields: there is one
pub written_ipv4_layout : (fields : Ipv4Fields) (h : Ipv4Header) (p : List ℕ) → StandForIpv4 fields h → AreWrittenForIpv4 fields p → IsIpv4LayoutWith h 0 p
written_ipv4_layout fields h p same w = let one : w.header ≡ h = search (rules, w.same, same) in rw one at w.layout
