use Rattle.std.proofs.Common.{ap, arith, length, refl}
use Rattle.packet_builder.proofs.ArpFrames.{arp_layout_len}
use Rattle.packet_builder.proofs.Parts.{both, from_front}
use Rattle.packet_builder.specs.BuiltPacket.{IsArpFrame}
use Rattle.packet_builder.proofs.arp_step.ArpStep.write_to_slice.Goals as goal

pub put-requires : goal.put-requires
put-requires c =
    omega (
      arith,
      c.put_link_headers-at.ensures.end,
      c.size-required_len.ensures.value,
      c.if-slice-required_len.false,
      ap length c.as_slice.ensures.value,
      arp_layout_len c.args.self.arp c.to_bytes-arp.result.items c.to_bytes-arp.ensures.layout,
      c.put_link_headers-at.ensures.writes.same_len,
    )

pub returns-clause-packet : goal.returns-clause-packet
returns-clause-packet c =
    let before = c.put_link_headers-at in
    let arp = c.to_bytes-arp in
    let put = c.put in
    let all = both {R = IsArpFrame c.args.self} 0 before.result put.result c.args.slice.now before.new.out put.new.out before.ensures.writes put.ensures.writes
    (omega (arith, put.ensures.end)) (λ p q is_p is_q. record { before = p; arp = q; are_before = is_p; is_arp = rw (is_q, c.as_slice.ensures.value) arp.ensures.layout; whole = refl }) in
    from_front put.result c.args.slice.now put.new.out all
    (omega (
      arith,
      all.same_len,
      put.ensures.end,
      before.ensures.end,
      c.size-required_len.ensures.value,
      c.if-slice-required_len.false,
      ap length c.as_slice.ensures.value,
      arp_layout_len c.args.self.arp arp.result.items arp.ensures.layout,
    )) (λ p is. is)
