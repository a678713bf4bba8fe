use Rattle.std.proofs.Common.{◌∙◌, arith, inr, sym}
use Rattle.std.proofs.lemmas.Bool.{not-false}
use Rattle.std.proofs.lemmas.Bool.Decides.{Decides-eqb, not_from_Decides}
use Rattle.std.proofs.lemmas.Grind.{common_steps}
use Rattle.uses.specs.Tunnel.{CarriesIpv4}
use Rattle.uses.proofs.tunnel.inner_ipv4.Goals as goal

pub returns-then-ne : goal.returns-then-ne
returns-then-ne c = grind (arith, common_steps)

pub returns-in-Ok : goal.returns-in-Ok
returns-in-Ok c =
    let is_ipv4 = (Decides-eqb _ 4).0 (not-false _ (sym c.ne.ensures ∙ c.if-ne.false)) in
    let is_whole = not_from_Decides _ c.is_fragmenting_payload.ensures.value c.if-is_fragmenting_payload.false in
    let carries : CarriesIpv4 _ _ _ = record { begins = c.in_ok-outer.ensures.reads.reads; protocol = is_ipv4; is_whole = is_whole } in
    record { found = record { outer = _; payload = _; carries = carries; follows = c.in-Ok.ensures.reads.reads }; none = tt; refused = tt }

pub returns-in-Err : goal.returns-in-Err
returns-in-Err c =
    let is_ipv4 = (Decides-eqb _ 4).0 (not-false _ (sym c.ne.ensures ∙ c.if-ne.false)) in
    let is_whole = not_from_Decides _ c.is_fragmenting_payload.ensures.value c.if-is_fragmenting_payload.false in
    let carries : CarriesIpv4 _ _ _ = record { begins = c.in_ok-outer.ensures.reads.reads; protocol = is_ipv4; is_whole = is_whole } in
    let moved = rw c.header_len.ensures.value at c.add_slice_offset.ensures.moved in
    let refused = c.in-Err.ensures.reads.reads in
    record {
      found = tt;
      none = tt;
      refused = inr (record { outer = _; payload = _; carries = carries; inside = _; refused = refused; moved = moved });
    }
