use Rattle.packet_rewriting.proofs.KeptIpv6.{header_fits, header_put}
use Rattle.packet_rewriting.proofs.fields.set_ecn_ipv6.Goals as goal

pub put_ipv6-requires : goal.put_ipv6-requires
put_ipv6-requires c = record { enough = header_fits c.in-Ok.ensures.reads.reads }

pub returns-clause-changed : goal.returns-clause-changed
returns-clause-changed c =
    let begins = c.in-Ok.ensures.reads.reads in
    record {
      header = c.in-Ok.header;
      rest = c.in-Ok.field-0-1.now;
      begins = begins;
      becomes = header_put begins c.set_ecn.ensures.set c.put_ipv6.ensures.written;
    }
