use Rattle.std.proofs.Common.{arith, rules}
use Rattle.packet.proofs.Places.{header_within}
use Rattle.c_answers.proofs.Stored.{later_protocol, with_other, with_tcp, with_udp, without_header}
use Rattle.c_answers.proofs.store.put_ip.Goals as goal

pub ip_parts_of-requires-clause-within : goal.ip_parts_of-requires-clause-within
ip_parts_of-requires-clause-within c = header_within c.args.packet.now c.args.ip.now c.requires.parts.parts

pub put_tcp-requires : goal.put_tcp-requires
put_tcp-requires c = record { fits = omega (arith, header_within c.args.packet.now c.args.ip.now c.requires.parts.parts, c.header_len.ensures.value, c.requires.fits) }

pub put_udp-requires : goal.put_udp-requires
put_udp-requires c = record { fits = omega (arith, header_within c.args.packet.now c.args.ip.now c.requires.parts.parts, c.header_len.ensures.value, c.requires.fits) }

pub returns-in-6 : goal.returns-in-6
returns-in-6 c = record {
  taken = λ yes. with_tcp c.args.place c.args.packet.now c.args.ip.now _ _ c.requires.parts c.ip_parts_of.ensures.value
      c.if-ip.false
      (let number = c.upper_of.ensures.value in let is = c.in-6.is in cc) (rw c.header_len.ensures.value at c.put_tcp.ensures.taken yes);
}

pub returns-in-17 : goal.returns-in-17
returns-in-17 c = record {
  taken = λ yes. with_udp c.args.place c.args.packet.now c.args.ip.now _ _ c.requires.parts c.ip_parts_of.ensures.value
      c.if-ip.false
      (let number = c.upper_of.ensures.value in let is = c.in-17.is in cc) (rw c.header_len.ensures.value at c.put_udp.ensures.taken yes);
}

pub put_other-requires : goal.put_other-requires
put_other-requires c =
    let within = header_within c.args.packet.now c.args.ip.now c.requires.parts.parts in
    record { fits = omega (arith, within, c.header_len.ensures.value, c.requires.fits) }

pub returns-then-is_none : goal.returns-then-is_none
returns-then-is_none c = record {
  taken = λ yes.
      let number = c.upper_of.ensures.value in
      let icmp = c.icmp_of.ensures.value in
      let other = rw (c.header_len.ensures.value, number, icmp) at c.put_other.ensures.taken yes in
      with_other c.args.place c.args.packet.now c.args.ip.now _ _ c.requires.parts
      c.ip_parts_of.ensures.value c.if-ip.false (search rules)
      (λ is. omega (arith, is)) (λ is. omega (arith, is)) other;
}

pub returns-then-ip : goal.returns-then-ip
returns-then-ip c = record {
  taken = λ yes.
      let none = later_protocol c.args.ip.now c.if-ip.true in
      without_header c.args.place c.args.packet.now c.args.ip.now _ _ c.requires.parts
      c.ip_parts_of.ensures.value none (search rules);
}
