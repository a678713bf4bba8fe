use Rattle.std.proofs.Common.{ℕ, ◌∙◌, ap, arith, length, length-append, length-drop, length-take, sym, take}
use Rattle.packet_parts.proofs.IpPackets.{payload_len_told, short_4, silent_4, whole_4}
use Rattle.packet_parts.proofs.IpParts.{rest_is}
use Rattle.packet_parts.proofs.ip_slice.ipv4_slice.Goals as goal
use Rattle.packet_parts.proofs.ip_slice.ipv4_slice.Goals.{in-Ok-payload_len, in-Ok-2, in-Err-payload_len+else-total_len-ne0}

pub slice_bounds-rest-count : goal.slice_bounds-rest-count
slice_bounds-rest-count c = let f = c.in-Ok.ensures.views in omega (arith, ap length c.slice.ensures.value, ap length f.whole, length-append {A = ℕ})

pub slice_bounds-rest-start : goal.slice_bounds-rest-start
slice_bounds-rest-start c = slice_bounds-rest-count c

pub slice_bounds-stop-end : goal.slice_bounds-stop-end
slice_bounds-stop-end c =
    let f = c.in-Ok.ensures.views in
    let told = payload_len_told f.header _ (sym (c.in-Ok-2.ensures.value f.header f.layout)) in
    let total = c.from-total_len.ensures ∙ c.total_len.ensures.value f.header f.layout in
    omega (arith, told, total, c.from.ensures, c.if-packet-total_len.false, ap length c.slice.ensures.value, f.layout.layout.len, length-take {A = ℕ}, length-drop {A = ℕ})

pub returns-then-total_len-ne0-clause-refused : goal.returns-then-total_len-ne0-clause-refused
returns-then-total_len-ne0-clause-refused c =
    let f = c.in-Ok.ensures.views in
    record {
      states = record {
        header = f.header;
        rest = f.rest;
        begins = record { front = c.in-Ok.header.slice.now; whole = f.whole; layout = f.layout };
        says = sym (c.in-Err-payload_len.ensures.value f.header f.layout);
      };
      some = λ zero. c.if-total_len-ne0.true (c.from-total_len.ensures ∙ c.total_len.ensures.value f.header f.layout ∙ zero);
    }

pub returns-clause-found : goal.returns-clause-found
returns-clause-found c =
    let packet = c.args.packet.now in
    let view = c.in-Ok.header in
    let f = c.in-Ok.ensures.views in
    let total = c.from-total_len.ensures ∙ c.total_len.ensures.value f.header f.layout in
    let rest = rest_is (length c.slice.result.now) packet view.slice.now f.rest f.whole (ap length (sym c.slice.ensures.value)) in
    let parts = c.ipv4_parts.ensures.parts packet in
    elim c.match-payload_len.branch [
      | in-Ok-payload_len w ↦ short_4 packet view f _ _ _ c.ipv4_parts.ensures.header parts _ (ap (λ x. x.0.now) w.stop-is ∙ rest) (omega (arith, total, w.if-packet-total_len.true))
          (rw total at w.too_short-e.ensures.value) (ap (λ x. x.1) w.stop-is)
      | in-Ok-2 w ↦ whole_4 packet view f _ _ _ c.ipv4_parts.ensures.header parts _ (ap (λ x. x.0.now) w.stop-is ∙ rw w.from.ensures (ap (take _) rest))
          (sym (w.in-Ok-payload_len.ensures.value f.header f.layout)) (omega (arith, total, w.if-packet-total_len.false)) (ap (λ x. x.1) w.stop-is)
      | in-Err-payload_len+else-total_len-ne0 w ↦ silent_4 packet view f _ _ _ c.ipv4_parts.ensures.header parts _ (ap (λ x. x.0.now) w.stop-is ∙ rest)
          (sym total ∙ w.if-total_len-ne0.false) (sym (w.in-Err-payload_len.ensures.value f.header f.layout)) (ap (λ x. x.1) w.stop-is)
    ]
