use Rattle.std.proofs.Common.{◌∙◌, ◌++◌, ap, append_assoc, arith}
use Rattle.packet_builder.proofs.BuiltHeaders.{same_ether_type}
use Rattle.packet_builder.proofs.Parts.{both}
use Rattle.packet_builder.specs.BuiltPacket.{AreHeadersBefore, IsIpBefore}
use Rattle.packet_builder.proofs.headers.Headers.put.Goals as goal

pub returns-clause-writes : goal.returns-clause-writes
returns-clause-writes c =
    let self = c.args.self.now in
    let made = c.set_before.new.self in
    let is : IsIpBefore self.ip c.args.protocol c.args.len made = c.set_before.ensures.made in
    let before = c.put_link_headers-at in
    let ip = c.put_ip in
    let version = c.ether_type_of.ensures.value ∙ same_ether_type self.ip made c.args.protocol c.args.len is in
    both {R = AreHeadersBefore self c.args.protocol c.args.len} 0 before.result ip.result c.args.out.now before.new.out ip.new.out before.ensures.writes ip.ensures.writes
    (omega (arith, ip.ensures.end)) (λ p q is_p is_q upper has_len. record {
      ip = made;
      is_ip = rw has_len is;
      begins = record {
        link = is_p.first;
        tags = is_p.tags;
        ip = q;
        is_link = rw version at is_p.is_link;
        are_tags = rw version at is_p.are_tags;
        is_ip = is_q;
        whole = append_assoc p q upper ∙ ap (λ l. l ++ (q ++ upper)) is_p.both ∙ append_assoc is_p.first is_p.tags (q ++ upper);
      };
    })
