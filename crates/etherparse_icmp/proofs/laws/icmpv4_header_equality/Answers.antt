use Rattle.std.proofs.Common.{◌≡◌, Bool, ap, rules, subst, sym, tests}
use Rattle.std.specs.Prelude.{◌&&◌, ◌==◌, ◌↔◌, IsTrue}
use Rattle.etherparse_icmp.specs.contracts.icmpv4.unreachable.DestUnreachableHeaderPartialEq.TheImpl as code_derived
use Rattle.etherparse_icmp.specs.contracts.icmpv4_type.Icmpv4TypePartialEq.TheImpl as derived
use Rattle.etherparse_icmp.specs.declared.icmpv4.unreachable.DestUnreachableHeader.{DestUnreachableHeader}
use Rattle.etherparse_icmp.specs.declared.icmpv4_header.Icmpv4Header.{Icmpv4Header}
use Rattle.etherparse_icmp.specs.declared.icmpv4_type.Icmpv4Type.{Icmpv4Type}
use Rattle.etherparse_icmp.specs.declared.icmpv4_type.Icmpv4Type.TheVariants.{DestinationUnreachable}
use Rattle.etherparse_icmp.proofs.laws.icmpv4_header_equality.Goals as goal

-- codes, types and headers are equal exactly if `==` says so
same_code : (a b : DestUnreachableHeader) → IsTrue ((code_derived.ghosts).eq a b) → a ≡ b
same_code a b = search (rules, tests)

is_same : (a b : Icmpv4Type) → IsTrue ((derived.ghosts).eq a b) → a ≡ b
is_same (DestinationUnreachable x) (DestinationUnreachable y) h = ap DestinationUnreachable (same_code x y h)
is_same a b h = search (rules, tests, h)

is_itself : (a : Icmpv4Type) → IsTrue ((derived.ghosts).eq a a)
is_itself a = search (rules, tests)

same_type : (a b : Icmpv4Type) → IsTrue ((derived.ghosts).eq a b) ↔ (a ≡ b)
same_type a b = (is_same a b, λ same. subst (λ x. IsTrue ((derived.ghosts).eq a x)) same (is_itself a))

same_parts : (t : Bool) (a b : Icmpv4Header) → (IsTrue t ↔ (a.icmp_type ≡ b.icmp_type)) → IsTrue (t && (a.checksum == b.checksum)) ↔ (a ≡ b)
same_parts t a b h = search (rules, tests)

pub returns : goal.returns
returns c =
    let a : Icmpv4Header = c.args.a.now in let b : Icmpv4Header = c.args.b.now in
    record { same_value = subst (λ (r : Bool). IsTrue r ↔ (a ≡ b)) (sym c.eq.ensures) (same_parts _ a b (same_type a.icmp_type b.icmp_type)) }
