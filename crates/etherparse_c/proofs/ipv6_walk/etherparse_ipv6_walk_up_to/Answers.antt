use Rattle.std.proofs.Common.{Ok, Err, rules}
use Rattle.etherparse_c.proofs.Answered.{answered}
use Rattle.etherparse_c.proofs.ipv6_walk.etherparse_ipv6_walk_up_to.Goals as goal

pub returns-in-Ok : goal.returns-in-Ok
returns-in-Ok c = record { walks = answered (Ok (c.in-Ok.number, c.in-Ok.rest.now)) c.in-Ok.ensures.walks c.in-Ok.ensures.only (search rules) }

pub returns-in-Err : goal.returns-in-Err
returns-in-Err c = record { walks = answered (Err c.in-Err.e) c.in-Err.ensures.walks c.in-Err.ensures.only (search rules) }
