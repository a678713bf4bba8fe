use Rattle.std.proofs.Common.{ap, arith, refl, sym}
use Rattle.packet_rewriting.specs.Fields.{UpdatesForSourceIpv4}
use Rattle.packet_rewriting.proofs.Readdressed.{enough_for, headers_within_ipv4, long_ipv4, payload_len_ipv4, payload_within_ipv4, readdressed, source_kept_ipv4, updated_source_ipv4}
use Rattle.packet_rewriting.proofs.fields.set_source_ipv4.Goals as goal

pub returns-clause-changed : goal.returns-clause-changed
returns-clause-changed c =
    let cuts = c.in-Ok.ensures.found in
    let split = c.split_at_mut-front in
    let set = c.set_source.ensures.set in
    let payload = c.update_for_ipv4.new.payload in
    let updates = updated_source_ipv4 cuts c.args.source split.result.1.now payload split.ensures.back c.update_for_ipv4.ensures.updated in
    readdressed cuts (UpdatesForSourceIpv4 c.args.source) 12 c.in-Ok.found.0.source c.args.source _ split.result.0.now c.put_address_ipv4.new.front split.result.1.now payload
    c.set_source.new.self split.ensures.front split.ensures.back (sym cuts.layout.layout.source) (ap (λ h. h.header_checksum) set)
    c.set_source.ensures.in_place c.put_address_ipv4.ensures.written updates refl
    (source_kept_ipv4 cuts c.set_source.new.self c.args.source payload (grind arith) (ap (λ h. h.source) set) (ap (λ h. h.destination) set) (ap (λ h. h.options) set) updates)

pub split_at_mut-front-requires : goal.split_at_mut-front-requires
split_at_mut-front-requires c = headers_within_ipv4 c.in-Ok.ensures.found

pub put_address_ipv4-requires : goal.put_address_ipv4-requires
put_address_ipv4-requires c =
    let long = long_ipv4 c.in-Ok.ensures.found _ c.split_at_mut-front.ensures.front in
    record { within = omega (arith, long); enough = omega (arith, long) }

pub slice_bounds-update_for_ipv4-end : goal.slice_bounds-update_for_ipv4-end
slice_bounds-update_for_ipv4-end c = payload_within_ipv4 c.in-Ok.ensures.found _ c.split_at_mut-front.ensures.back

pub slice_bounds-update_for_ipv4-end-2 : goal.slice_bounds-update_for_ipv4-end-2
slice_bounds-update_for_ipv4-end-2 c = payload_len_ipv4 c.in-Ok.ensures.found _ c.split_at_mut-front.ensures.back

pub update_for_ipv4-requires : goal.update_for_ipv4-requires
update_for_ipv4-requires c = record { enough = enough_for c.in-Ok.ensures.found c.split_at_mut-front.result.1.now c.split_at_mut-front.ensures.back }
