use Rattle.std.proofs.Common.{refl}
use Rattle.std.proofs.lemmas.Bool.{false≢true}
use Rattle.packet_parts.proofs.fragment_key.ipv4_key.Goals as goal

pub returns-then-not-is_fragmenting_payload-clause-none : goal.returns-then-not-is_fragmenting_payload-clause-none
returns-then-not-is_fragmenting_payload-clause-none c =
    record { header = c.in_ok-header.header; rest = _; begins = c.in_ok-header.ensures.reads.reads; is_whole = λ h. false≢true (c.if-not-is_fragmenting_payload.ensures.value.1 h) }

pub returns-clause-found : goal.returns-clause-found
returns-clause-found c =
    record { header = c.in_ok-header.header; rest = _; begins = c.in_ok-header.ensures.reads.reads; is_fragment = c.if-not-is_fragmenting_payload.ensures.value.0 refl; key_of = refl }
