-- The ECN codepoint of a packet that fragments were cut from (RFC 3168 section 5.3).
use Rattle.std.specs.Prelude.{◌≡◌, ◌+◌, ◌*◌, ◌/◌, ◌^◌, ◌||◌, false, true, if◌then◌else◌}
use Rattle.etherparse.specs.IpEcn.{ecn_value}
use Rattle.etherparse.specs.declared.IpEcn.{IpEcn}
use Rattle.etherparse.specs.declared.IpEcn.TheVariants as codepoint
use Rattle.etherparse.specs.declared.net.ipv4_header.Ipv4Header.{Ipv4Header}
use Rattle.etherparse.specs.declared.net.ipv6_header.Ipv6Header.{Ipv6Header}
use Rattle.packet_reassembly.specs.declared.fragment_ecn.FragmentEcn.{FragmentEcn}

-- no fragment has CE and none Not-ECT, as before any has come
abbrev pub no_ecn : FragmentEcn
no_ecn = record { ce = false; not_ect = false }

-- one fragment with this codepoint has come
abbrev pub ecn_of : IpEcn → FragmentEcn
ecn_of codepoint.NotEct = record { ce = false; not_ect = true }
ecn_of codepoint.Ect1 = no_ecn
ecn_of codepoint.Ect0 = no_ecn
ecn_of codepoint.CongestionExperienced = record { ce = true; not_ect = false }

-- these fragments have come and those
abbrev pub ecn_with : FragmentEcn → FragmentEcn → FragmentEcn
ecn_with these those =
    record { ce = these.ce || those.ce; not_ect = these.not_ect || those.not_ect }

-- The packet is dropped: one fragment has CE, which must not be lost, and another has Not-ECT, with
-- which CE must not be set.
abbrev pub IsDropped : FragmentEcn → Type 0
IsDropped ecn = (ecn.ce ≡ true) × (ecn.not_ect ≡ true)

-- the header of the first fragment as the packet has it: with CE if any fragment has CE
abbrev pub marked_ipv4 : FragmentEcn → Ipv4Header → Ipv4Header
marked_ipv4 ecn first = record first {
  ecn = if ecn.ce then codepoint.CongestionExperienced else first.ecn;
}

-- The same of IPv6, whose traffic class has the codepoint in its lower 2 bits.
abbrev pub marked_ipv6 : FragmentEcn → Ipv6Header → Ipv6Header
marked_ipv6 ecn first = record first {
  traffic_class = if ecn.ce
      then first.traffic_class / 2 ^ 2 * 2 ^ 2 + ecn_value codepoint.CongestionExperienced
      else first.traffic_class;
}
