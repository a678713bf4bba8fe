use Rattle.std.proofs.Common.{ℕ, ◌≤◌, ◌∙◌, ap, arith, length, length-append, length-drop, length-take, refl, take}
use Rattle.packet_parts.proofs.IpParts.{rest_is}
use Rattle.c_answers.proofs.Stored.{ipv6_parts}
use Rattle.c_answers.proofs.store.plain_ipv6.Goals as goal

pub returns : goal.returns
returns c =
    let packet = c.args.packet.now in
    let view = c.in-Ok.header in
    let f = c.in-Ok.ensures.views in
    let told = c.from-len.ensures ∙ c.payload_length.ensures.value f.header f.layout in
    let rest = rest_is 40 packet view.slice.now f.rest f.whole f.layout.len in
    let enough : f.header.payload_length ≤ length f.rest =
    omega (arith, told, c.if-rest-len.false, ap length f.whole, f.layout.len, length-append {A = ℕ}, length-take {A = ℕ}, length-drop {A = ℕ}) in record {
      parts = ipv6_parts packet view f _ refl refl refl refl (c.next_header-upper.ensures.value f.header f.layout) (rw told (ap (take _) rest)) enough
          (λ skippable. let passed = c.is_skippable_header_extension.ensures.value.1 skippable in let last = c.if-is_skippable_header_extension.false in cc);
    }
