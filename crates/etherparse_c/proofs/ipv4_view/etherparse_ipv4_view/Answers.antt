use Rattle.std.proofs.Common.{ap, arith, length, length-append, rules}
use Rattle.etherparse.specs.Ipv4Header.{IsIpv4Layout, RefusesIpv4}
use Rattle.etherparse_c.proofs.Answered.{seen, unseen}
use Rattle.etherparse_c.proofs.ipv4_view.etherparse_ipv4_view.Goals as goal

pub after-requires : goal.after-requires
after-requires c =
    let v = c.in-Ok.ensures.views in omega (arith, ap length v.whole, length-append c.in-Ok.view.slice.now v.rest)

pub returns-in-Ok : goal.returns-in-Ok
returns-in-Ok c = record {
  views = seen IsIpv4Layout RefusesIpv4 c.args.slice.now c.in-Ok.view.slice.now c.in-Ok.ensures.views c.in-Ok.ensures.only λ header rest layout len.
      let place = c.after.ensures.value rest len in
      let view = c.getters_of.ensures.value header layout in search (rules, place, view);
}

pub returns-in-Err : goal.returns-in-Err
returns-in-Err c = record {
  views = unseen IsIpv4Layout RefusesIpv4 c.args.slice.now c.in-Err.e c.in-Err.ensures.views c.in-Err.ensures.only (search rules);
}
