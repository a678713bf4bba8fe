use Rattle.std.proofs.Common.{ℕ, ◌≡◌, ◌≤◌, ◌↔◌, List, arith, inr, length, refl, rules, subst, tests}
use Rattle.packet_parts.specs.Checksum.{Covers, IsAbsent, IsRightIpv6, IsVerdictIpv6}
use Rattle.packet_parts.specs.declared.checksum.Absence.{Absence}
use Rattle.packet_parts.specs.declared.checksum.Absence.TheVariants as absence
use Rattle.packet_parts.specs.declared.checksum.Verdict.{Verdict}
use Rattle.packet_parts.specs.declared.checksum.Verdict.TheVariants.{Right, Absent}
use Rattle.etherparse_icmp.proofs.icmpv6_slice.Icmpv6Slice.is_checksum_valid.Goals as goal

-- the checksum of ICMPv6 covers the message, which has one
whole : (message covered : List ℕ) → Covers 58 58 message covered → message ≡ covered
whole message covered c = grind (arith, c)

there : (message : List ℕ) (reason : Absence) → 8 ≤ length message
    → IsAbsent 58 58 message reason → ⊥
there message absence.Incomplete enough none =
    none.1 message (inr (inr (refl, omega (arith, enough), refl)))
there message reason enough none = grind (arith, none)

judged : (a b message : List ℕ) (verdict : Verdict) → 8 ≤ length message
    → IsVerdictIpv6 a b 58 message verdict → (verdict ≡ Right) ↔ IsRightIpv6 a b 58 message
judged a b message (Absent reason) enough v = absurd (there message reason enough v)
judged a b message verdict enough v =
    let same = subst (IsRightIpv6 a b 58) (whole message v.0 v.1) in
    search (rules, v, same)

pub returns : goal.returns
returns c =
    let message = c.args.self.now.slice.now in
    search (tests, rules, judged _ _ message _ (omega arith) c.ipv6_verdict.ensures.judges)
