use Rattle.std.proofs.Common.{refl}
use Rattle.std.proofs.lemmas.Bool.{false≢true}
use Rattle.packet_parts.proofs.checksum.ipv4_verdict.Goals as goal

pub returns-then-is_right_ipv4 : goal.returns-then-is_right_ipv4
returns-then-is_right_ipv4 c = record {
  judges = (
    c.in-Ok.covered.now,
    record { covers = c.in-Ok.ensures.found; there = λ h. false≢true (c.if-is_without_checksum.ensures.value.1 h) },
    c.if-is_right_ipv4.ensures.value.0 refl,
  );
}

pub returns-else-is_right_ipv4 : goal.returns-else-is_right_ipv4
returns-else-is_right_ipv4 c = record {
  judges = (
    c.in-Ok.covered.now,
    record { covers = c.in-Ok.ensures.found; there = λ h. false≢true (c.if-is_without_checksum.ensures.value.1 h) },
    λ h. false≢true (c.if-is_right_ipv4.ensures.value.1 h),
  );
}
