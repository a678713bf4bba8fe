use Rattle.std.proofs.Common.{◌≡◌, ap, rules, tests}
use Rattle.std.specs.Prelude.{◌↔◌, IsTrue}
use Rattle.etherparse.specs.declared.Ipv4Header.{Ipv4Header}
use Rattle.etherparse.specs.declared.Ipv6Header.{Ipv6Header}
use Rattle.packet_builder.specs.contracts.headers.IpHeaderPartialEq.TheImpl as derived
use Rattle.packet_builder.specs.declared.headers.IpHeader.{IpHeader}
use Rattle.packet_builder.specs.declared.headers.IpHeader.TheVariants as ip
use Rattle.packet_builder.proofs.laws.ip_header_equality.Goals as goal

same_ipv4 : (a b : Ipv4Header) → IsTrue ((derived.ghosts).eq (ip.Ipv4 a) (ip.Ipv4 b)) ↔ (a ≡ b)
same_ipv4 a b = search (tests, rules)

same_ipv6 : (a b : Ipv6Header) → IsTrue ((derived.ghosts).eq (ip.Ipv6 a) (ip.Ipv6 b)) ↔ (a ≡ b)
same_ipv6 a b = search (tests, rules)

same : (a b : IpHeader) → IsTrue ((derived.ghosts).eq a b) ↔ (a ≡ b)
same (ip.Ipv4 a) (ip.Ipv4 b) = (λ h. ap ip.Ipv4 ((same_ipv4 a b).0 h), λ h. (same_ipv4 a b).1 cc)
same (ip.Ipv6 a) (ip.Ipv6 b) = (λ h. ap ip.Ipv6 ((same_ipv6 a b).0 h), λ h. (same_ipv6 a b).1 cc)
same _ _ = search rules

pub returns : goal.returns
returns c = search (rules, same)
