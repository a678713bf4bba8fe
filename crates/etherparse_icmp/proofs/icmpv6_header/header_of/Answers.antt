use Rattle.std.proofs.Common.{arith, subst, sym, slice_index}
use Rattle.etherparse_icmp.proofs.Rests.{rest_at}
use Rattle.etherparse_icmp.specs.Icmpv6.{SaysIcmpv6}
use Rattle.std.proofs.lemmas.Grind.{common_steps}
use Rattle.etherparse_icmp.proofs.icmpv6_header.header_of.Goals as goal

pub returns : goal.returns
returns c =
    let p = c.args.bytes.now in
    let says = subst (λ rest. SaysIcmpv6 (slice_index p 0) (slice_index p 1) rest c.of.result)
    (sym (rest_at p c.requires)) c.of.ensures.says in
    record {
      layout =
          record {
            layout =
                record {
                  len = c.requires;
                  are_bytes = λ i. omega (arith, c.type_inv.bytes i);
                  says =
                      says;
                  checksum_is = grind (arith, common_steps);
                };
            as_read = c.of.ensures.as_read;
          };
    }
