use Rattle.std.proofs.Common.{arith, drop, refl, subst}
use Rattle.etherparse.specs.Ipv6Header.{IsIpv6Layout}
use Rattle.etherparse.specs.Reading.{BeginsWith}
use Rattle.packet_parts.specs.FinalDestination.{GoesToIpv6}
use Rattle.packet_rewriting.proofs.KeptIpv6.{destination_kept, enough_ipv6, headers_within_ipv6, long_ipv6, payload_len_ipv6, payload_within_ipv6, readdressed_ipv6, updated_ipv6}
use Rattle.packet_rewriting.specs.Fields.{UpdatesForDestinationIpv6}
use Rattle.packet_rewriting.proofs.fields.set_destination_ipv6.Goals as goal

pub returns-clause-changed : goal.returns-clause-changed
returns-clause-changed c =
    let split = c.split_at_mut-front in
    let cuts = c.in-Ok.ensures.found in
    let goes_new = rw c.with_destination-next.ensures.value at c.final_in-new.ensures.goes_to in
    let updates = updated_ipv6 cuts GoesToIpv6 _ c.args.destination _ _ _ _ _ split.ensures.front split.ensures.back c.final_in-old.ensures.goes_to goes_new c.update_if_known.ensures.updated in
    readdressed_ipv6 cuts (UpdatesForDestinationIpv6 c.args.destination) (λ h. record h { destination = c.args.destination }) _ split.result.0.now c.put_ipv6.new.packet split.result.1.now c.update_if_known.new.payload
    split.ensures.front split.ensures.back
    (subst (λ h. BeginsWith IsIpv6Layout c.put_ipv6.new.packet h (drop 40 split.result.0.now)) c.with_destination-next.ensures.value c.put_ipv6.ensures.written) updates refl
    (destination_kept cuts c.args.destination c.update_if_known.new.payload (grind arith) updates)

pub split_at_mut-front-requires : goal.split_at_mut-front-requires
split_at_mut-front-requires c = headers_within_ipv6 c.in-Ok.ensures.found

pub put_ipv6-requires : goal.put_ipv6-requires
put_ipv6-requires c = record { enough = long_ipv6 c.in-Ok.ensures.found c.split_at_mut-front.result.0.now c.split_at_mut-front.ensures.front }

pub slice_bounds-update_if_known-end : goal.slice_bounds-update_if_known-end
slice_bounds-update_if_known-end c = payload_within_ipv6 c.in-Ok.ensures.found _ c.split_at_mut-front.ensures.back

pub slice_bounds-update_if_known-end-2 : goal.slice_bounds-update_if_known-end-2
slice_bounds-update_if_known-end-2 c = payload_len_ipv6 c.in-Ok.ensures.found _ c.split_at_mut-front.ensures.back

pub update_if_known-requires : goal.update_if_known-requires
update_if_known-requires c = record { enough = enough_ipv6 c.in-Ok.ensures.found c.split_at_mut-front.result.1.now c.split_at_mut-front.ensures.back }
