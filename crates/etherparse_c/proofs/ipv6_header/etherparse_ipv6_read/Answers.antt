use Rattle.std.proofs.Common.{Ok, Err, ap, arith, length, length-append, rules}
use Rattle.etherparse_c.proofs.Answered.{answered}
use Rattle.etherparse_c.proofs.ipv6_header.etherparse_ipv6_read.Goals as goal

pub of-requires : goal.of-requires
of-requires c =
    let read = c.in-Ok.ensures.reads.reads in omega (arith, ap length read.whole, length-append read.front c.in-Ok.rest.now)

pub returns-in-Ok : goal.returns-in-Ok
returns-in-Ok c = record { reads = answered (Ok (c.in-Ok.header, c.in-Ok.rest.now)) c.in-Ok.ensures.reads.reads c.in-Ok.ensures.reads.only (search rules) }

pub returns-in-Err : goal.returns-in-Err
returns-in-Err c = record { reads = answered (Err c.in-Err.e) c.in-Err.ensures.reads.reads c.in-Err.ensures.reads.only (search rules) }
