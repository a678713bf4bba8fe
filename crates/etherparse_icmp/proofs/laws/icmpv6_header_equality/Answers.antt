use Rattle.std.proofs.Common.{◌≡◌, Bool, refl, rules, subst, sym, tests}
use Rattle.std.proofs.lemmas.Bool.{false≢true}
use Rattle.std.specs.Prelude.{◌&&◌, ◌==◌, ◌↔◌, IsTrue}
use Rattle.etherparse_icmp.specs.contracts.icmpv6_type.Icmpv6TypePartialEq.TheImpl as derived
use Rattle.etherparse_icmp.specs.declared.icmpv6_header.Icmpv6Header.{Icmpv6Header}
use Rattle.etherparse_icmp.specs.declared.icmpv6_type.Icmpv6Type.{Icmpv6Type}
use Rattle.etherparse_icmp.specs.declared.icmpv6_type.Icmpv6Type.TheVariants as message
use Rattle.etherparse_icmp.proofs.laws.icmpv6_header_equality.Goals as goal

-- types and headers are equal exactly if `==` says so
is_same : (a b : Icmpv6Type) → IsTrue ((derived.ghosts).eq a b) → a ≡ b
is_same (message.Unknown m n s) (message.Unknown k l t) h = search (rules, tests, h)
is_same (message.DestinationUnreachable x) (message.DestinationUnreachable y) h = search (rules, tests, h)
is_same (message.PacketTooBig x) (message.PacketTooBig y) h = search (rules, tests, h)
is_same (message.TimeExceeded x) (message.TimeExceeded y) h = search (rules, tests, h)
is_same (message.ParameterProblem x) (message.ParameterProblem y) h = search (rules, tests, h)
is_same (message.EchoRequest x) (message.EchoRequest y) h = search (rules, tests, h)
is_same (message.EchoReply x) (message.EchoReply y) h = search (rules, tests, h)
is_same (message.RouterAdvertisement x) (message.RouterAdvertisement y) h = search (rules, tests, h)
is_same (message.NeighborAdvertisement x) (message.NeighborAdvertisement y) h = search (rules, tests, h)
is_same message.RouterSolicitation message.RouterSolicitation h = refl
is_same message.NeighborSolicitation message.NeighborSolicitation h = refl
is_same message.Redirect message.Redirect h = refl
is_same a b h = absurd (false≢true h)

is_itself : (a : Icmpv6Type) → IsTrue ((derived.ghosts).eq a a)
is_itself a = search (rules, tests)

same_type : (a b : Icmpv6Type) → IsTrue ((derived.ghosts).eq a b) ↔ (a ≡ b)
same_type a b = (is_same a b, λ same. subst (λ x. IsTrue ((derived.ghosts).eq a x)) same (is_itself a))

same_parts : (t : Bool) (a b : Icmpv6Header) → (IsTrue t ↔ (a.icmp_type ≡ b.icmp_type)) → IsTrue (t && (a.checksum == b.checksum)) ↔ (a ≡ b)
same_parts t a b h = search (rules, tests)

pub returns : goal.returns
returns c =
    let a : Icmpv6Header = c.args.a.now in let b : Icmpv6Header = c.args.b.now in
    record { same_value = subst (λ (r : Bool). IsTrue r ↔ (a ≡ b)) (sym c.eq.ensures) (same_parts _ a b (same_type a.icmp_type b.icmp_type)) }
