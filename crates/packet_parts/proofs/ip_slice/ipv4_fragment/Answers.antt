use Rattle.std.proofs.Common.{arith}
use Rattle.std.proofs.lemmas.Bool.Decides.{nat_tests}
use Rattle.std.proofs.lemmas.Grind.{common_steps}
use Rattle.packet_parts.proofs.ip_slice.ipv4_fragment.Goals as goal

pub returns-then-not-is_fragmenting_payload : goal.returns-then-not-is_fragmenting_payload
returns-then-not-is_fragmenting_payload c = record {
  value = λ header layout. grind (arith, common_steps, nat_tests, c.is_fragmenting_payload.ensures.value header layout, c.if-not-is_fragmenting_payload.true);
}

pub returns : goal.returns
returns c = record {
  value = λ header layout. grind (
    arith,
    common_steps,
    nat_tests,
    c.is_fragmenting_payload.ensures.value header layout,
    c.if-not-is_fragmenting_payload.false,
    c.identification.ensures.value header layout,
    c.from.ensures,
    c.fragments_offset.ensures.value header layout,
    c.value.ensures.value,
    c.from-2.ensures,
    c.more_fragments.ensures.value header layout,
  );
}
