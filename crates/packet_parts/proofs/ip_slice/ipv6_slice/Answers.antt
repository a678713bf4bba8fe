use Rattle.std.proofs.Common.{ℕ, ◌≡◌, ◌≢◌, ◌+◌, ◌<◌, ◌≤◌, ◌∙◌, ◌++◌, ap, arith, inr, drop, length, length-append, refl, sym, take}
use Rattle.std.proofs.lemmas.List.{drop_at}
use Rattle.etherparse.specs.Ipv6Header.{IsIpv6Layout}
use Rattle.etherparse.specs.Reading.{BeginsWith}
use Rattle.packet_parts.proofs.IpPackets.{ipv6_bytes-short, ipv6_bytes-told, ipv6_packet_len-told}
use Rattle.packet_parts.proofs.IpParts.{cut_front, packet_len_6, rest_is}
use Rattle.packet_parts.specs.IpSlice.{ipv6_bytes, ipv6_packet_len}
use Rattle.packet_parts.proofs.ip_slice.ipv6_slice.Goals as goal

pub returns-then-len-eq0-clause-found : goal.returns-then-len-eq0-clause-found
returns-then-len-eq0-clause-found c =
    let packet = c.args.packet.now in
    let view = c.in-Ok.header in
    let f = c.in-Ok.ensures.views in
    let rest = rest_is 40 packet view.slice.now f.rest f.whole f.layout.len in
    let none : ipv6_packet_len f.header.payload_length f.header.next_header ≡ 0 = sym (packet_len_6 view f.header view.slice.now f.layout refl) ∙ sym c.ipv6_packet_len-len.ensures.value ∙ c.if-len-eq0.true in
    c.slice_without_length.ensures.found packet f.header none (record { front = view.slice.now; whole = f.whole ∙ ap (λ x. view.slice.now ++ x) (sym rest); layout = f.layout }) refl

pub returns-then-packet-len-clause-found : goal.returns-then-packet-len-clause-found
returns-then-packet-len-clause-found c =
    let packet = c.args.packet.now in
    let view = c.in-Ok.header in
    let f = c.in-Ok.ensures.views in
    let len = c.ipv6_packet_len-len.ensures.value ∙ packet_len_6 view f.header view.slice.now f.layout refl in
    let told = len ∙ ipv6_packet_len-told f.header.payload_length f.header.next_header (λ zero. c.if-len-eq0.false (len ∙ zero)) in
    let short : length packet < 40 + f.header.payload_length = omega (arith, told, c.if-packet-len.true) in
    let rest = rest_is 40 packet view.slice.now f.rest f.whole f.layout.len in
    let begins : BeginsWith IsIpv6Layout packet f.header f.rest = record { front = view.slice.now; whole = f.whole; layout = f.layout } in
    record {
      parts = c.ipv6_parts-slice.ensures.parts packet f.header
          (record { front = view.slice.now; whole = ipv6_bytes-short f.header packet (omega (arith, short)) ∙ f.whole ∙ ap (λ x. view.slice.now ++ x) (sym rest); layout = f.layout }) refl;
      stop = inr (inr (record { header = f.header; rest = f.rest; begins = begins; short = short; error = rw told at c.too_short-e.ensures.value }));
    }

pub returns-clause-found : goal.returns-clause-found
returns-clause-found c =
    let packet = c.args.packet.now in
    let view = c.in-Ok.header in
    let f = c.in-Ok.ensures.views in
    let len = c.ipv6_packet_len-len.ensures.value ∙ packet_len_6 view f.header view.slice.now f.layout refl in
    let some : ipv6_packet_len f.header.payload_length f.header.next_header ≢ 0 = λ zero. c.if-len-eq0.false (len ∙ zero) in
    let told = len ∙ ipv6_packet_len-told f.header.payload_length f.header.next_header some in
    let enough : 40 + f.header.payload_length ≤ length packet = omega (arith, told, c.if-packet-len.false) in
    let rest = ap (drop 40) f.whole ∙ drop_at view.slice.now f.rest 40 f.layout.len in
    let cut = cut_front packet view.slice.now f.rest f.header.payload_length (40 + f.header.payload_length) f.whole (omega (arith, f.layout.len)) in
    let body : BeginsWith IsIpv6Layout (ipv6_bytes f.header packet) f.header _ = record {
      front = view.slice.now;
      whole = sym (ipv6_bytes-told f.header packet some) ∙ cut ∙ ap (λ x. view.slice.now ++ x) (ap (take _) (sym rest) ∙ ap (λ n. take n (drop 40 packet)) (omega (arith, told)));
      layout = f.layout;
    } in
    record { parts = c.ipv6_parts.ensures.parts packet f.header body refl; stop = c.ipv6_parts.ensures.stop packet f.header some enough body refl }

pub slice_bounds-ipv6_parts-count : goal.slice_bounds-ipv6_parts-count
slice_bounds-ipv6_parts-count c = let f = c.in-Ok.ensures.views in omega (arith, f.layout.len, ap length f.whole, length-append {A = ℕ})

pub slice_bounds-ipv6_parts-start : goal.slice_bounds-ipv6_parts-start
slice_bounds-ipv6_parts-start c = slice_bounds-ipv6_parts-count c

pub slice_bounds-slice_without_length-count : goal.slice_bounds-slice_without_length-count
slice_bounds-slice_without_length-count c = let f = c.in-Ok.ensures.views in omega (arith, f.layout.len, ap length f.whole, length-append {A = ℕ})

pub slice_bounds-slice_without_length-start : goal.slice_bounds-slice_without_length-start
slice_bounds-slice_without_length-start c = slice_bounds-slice_without_length-count c
