use Rattle.std.proofs.Common.{ℕ, ap, arith, length, length-drop, length-take, refl, sym, take}
use Rattle.packet_parts.proofs.IpPackets.{payload_len_told}
use Rattle.packet_parts.proofs.IpParts.{rest_is}
use Rattle.c_answers.proofs.Stored.{ipv4_parts}
use Rattle.c_answers.proofs.store.plain_ipv4.Goals as goal

pub slice_bounds-result-end-in-Ok-payload_len : goal.slice_bounds-result-end-in-Ok-payload_len
slice_bounds-result-end-in-Ok-payload_len c =
    let f = c.in-Ok.ensures.views in
    let told = payload_len_told f.header _ (sym (c.in-Ok-payload_len.ensures.value f.header f.layout)) in
    let enough = c.is_whole.ensures.enough c.if-is_whole.true f.header f.layout in
    omega (arith, told, enough, c.from.ensures, ap length c.slice.ensures.value, f.layout.layout.len, length-take {A = ℕ}, length-drop {A = ℕ})

pub returns-in-Ok-payload_len : goal.returns-in-Ok-payload_len
returns-in-Ok-payload_len c =
    let packet = c.args.packet.now in
    let view = c.in-Ok.header in
    let f = c.in-Ok.ensures.views in
    let rest = rest_is (length c.slice.result.now) packet view.slice.now f.rest f.whole (ap length (sym c.slice.ensures.value)) in record {
      parts = ipv4_parts packet view f _ c.in-Ok-payload_len.len refl refl refl refl (c.protocol.ensures.value f.header f.layout) (rw c.from.ensures (ap (take _) rest))
          (sym (c.in-Ok-payload_len.ensures.value f.header f.layout)) (c.is_whole.ensures.enough c.if-is_whole.true f.header f.layout)
          (c.is_whole.ensures.no_fragment c.if-is_whole.true f.header f.layout);
    }
