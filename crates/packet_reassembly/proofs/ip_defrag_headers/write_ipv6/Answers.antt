use Rattle.std.proofs.Common.{ℕ, ◌≡◌, ◌++◌, ◌-◌, ◌<◌, ◌≤◌, List, Ok, ap, arith, length, length-append, refl}
use Rattle.std.proofs.lemmas.Result.{IfErr-weaker, IfOk-at_ok, IfOk-weaker}
use Rattle.packet_reassembly.specs.Headers.{AreIpv6HeadersAt}
use Rattle.packet_reassembly.proofs.Kept.{ipv6_first, parts_at, places, too_long}
use Rattle.packet_reassembly.proofs.ip_defrag_headers.write_ipv6.Goals as goal

at : {headers : List ℕ} {place : ℕ} → AreIpv6HeadersAt headers place
    → (40 ≤ place) × (place ≤ length headers) × (8 ≤ length headers) × (place ≤ length headers - 8) × (length headers - 8 ≤ length headers) × (length headers - 8 < length headers)
at p = let h = places _ _ p in (omega arith, omega arith, omega arith, omega arith, omega arith, omega arith)

pub unreachable-requires : goal.unreachable-requires
unreachable-requires c =
    let p = c.requires.headers in
    cc (c.in-Err.ensures.reads.only (Ok (p.first, p.before ++ (p.last ++ p.are_headers.at))) (ipv6_first c.args.headers.now c.args.place p))

pub overflow_sub-end : goal.overflow_sub-end
overflow_sub-end c = (at c.requires.headers).2

pub bounds-headers-end : goal.bounds-headers-end
bounds-headers-end c = (at c.requires.headers).5

pub slice_bounds-before-start : goal.slice_bounds-before-start
slice_bounds-before-start c = (at c.requires.headers).0

pub slice_bounds-before-end : goal.slice_bounds-before-end
slice_bounds-before-end c = (at c.requires.headers).1

pub slice_bounds-last-start : goal.slice_bounds-last-start
slice_bounds-last-start c = (at c.requires.headers).3

pub slice_bounds-last-end : goal.slice_bounds-last-end
slice_bounds-last-end c = (at c.requires.headers).4

pub slice_bounds-before-count : goal.slice_bounds-before-count
slice_bounds-before-count c = (at c.requires.headers).0

pub slice_bounds-last-count : goal.slice_bounds-last-count
slice_bounds-last-count c = (at c.requires.headers).3

pub write_ipv6_packet-requires : goal.write_ipv6_packet-requires
write_ipv6_packet-requires c =
    let p = c.requires.headers in
    let (is_before, is_last, is_number) = parts_at c.args.headers.now c.args.place p in
    let same : c.in-Ok.first ≡ p.first = IfOk-at_ok (λ x. x.0 ≡ p.first) (c.in-Ok.ensures.reads.only (Ok (p.first, p.before ++ (p.last ++ p.are_headers.at))) (ipv6_first c.args.headers.now c.args.place p)) refl in
    record {
      room = c.requires.room;
      headers = rw (c.mark_ipv6.ensures.value, same, is_before, is_last) p.are_headers.unfragmentable;
      within = rw (is_before, is_last)
          (omega (arith, c.requires.short, ap length p.are_headers.whole, length-append {A = ℕ}));
    }

pub returns : goal.returns
returns c =
    let p = c.requires.headers in
    let (is_before, is_last, is_number) = parts_at c.args.headers.now c.args.place p in
    let same : c.in-Ok.first ≡ p.first = IfOk-at_ok (λ x. x.0 ≡ p.first) (c.in-Ok.ensures.reads.only (Ok (p.first, p.before ++ (p.last ++ p.are_headers.at))) (ipv6_first c.args.headers.now c.args.place p)) refl in
    record {
      packet = IfOk-weaker c.write_ipv6_packet.result _ _ (λ len has. let packet = rw (c.mark_ipv6.ensures.value, same, is_before, is_last, is_number) at has in search) c.write_ipv6_packet.ensures.packet;
      within = c.write_ipv6_packet.ensures.within;
      after = c.write_ipv6_packet.ensures.after;
      refused = IfErr-weaker c.write_ipv6_packet.result _ _ (λ _ long. let is_long = rw (is_before, is_last) at long in search) (too_long c.write_ipv6_packet.result _ 65535 c.write_ipv6_packet.ensures.accepted);
      error = IfErr-weaker c.write_ipv6_packet.result _ _ (λ _ is. let is_error = rw (is_before, is_last) at is in search) c.write_ipv6_packet.ensures.refused;
      unchanged = c.write_ipv6_packet.ensures.unchanged;
    }
