use Rattle.std.proofs.Common.{arith, refl}
use Rattle.std.proofs.lemmas.Bool.Decides.{nat_tests}
use Rattle.packet_reassembly.proofs.FirstHeaders.{added_have}
use Rattle.packet_reassembly.proofs.ip_defrag_pool.IpDefragPool.add_packet.Goals as goal

pub returns-then-lacks_chain-clause-refused : goal.returns-then-lacks_chain-clause-refused
returns-then-lacks_chain-clause-refused c = record {
  f = c.in-Ok-Some.fragment;
  has = rw c.in-Ok-Some.field-0-is at c.in-Ok-Some.ensures.found;
  first = c.lacks_chain.ensures.first c.if-lacks_chain.true;
  lacks = c.lacks_chain.ensures.lacks c.if-lacks_chain.true;
}

pub returns-then-has_long_headers-clause-refused :
    goal.returns-then-has_long_headers-clause-refused
returns-then-has_long_headers-clause-refused c = record {
  f = c.in-Ok-Some.fragment;
  has = rw c.in-Ok-Some.field-0-is at c.in-Ok-Some.ensures.found;
  chain = c.lacks_chain.ensures.whole c.if-lacks_chain.false;
  first = c.has_long_headers.ensures.first c.if-has_long_headers.true;
  is_len = refl;
  long = c.has_long_headers.ensures.long c.if-has_long_headers.true;
}

pub returns-in-Ok-clause-added : goal.returns-in-Ok-clause-added
returns-in-Ok-clause-added c = record {
  f = c.in-Ok-Some.fragment;
  has = rw c.in-Ok-Some.field-0-is at c.in-Ok-Some.ensures.found;
  chain = c.lacks_chain.ensures.whole c.if-lacks_chain.false;
  short = c.has_long_headers.ensures.short c.if-has_long_headers.false;
  right = c.in-Ok.ensures.right;
  is_added = rw (c.first_of.ensures.headers, c.of.ensures.value) at c.in-Ok.ensures.added;
  others = c.in-Ok.ensures.others;
}

pub returns-in-Ok-clause-headers : goal.returns-in-Ok-clause-headers
returns-in-Ok-clause-headers c = added_have c.in-Ok.ensures.added (λ front none. let is = c.first_of.ensures.headers in grind (arith, nat_tests))

pub returns-in-Err-add_to-clause-refused : goal.returns-in-Err-add_to-clause-refused
returns-in-Err-add_to-clause-refused c = record {
  f = c.in-Ok-Some.fragment;
  has = rw c.in-Ok-Some.field-0-is at c.in-Ok-Some.ensures.found;
  chain = c.lacks_chain.ensures.whole c.if-lacks_chain.false;
  short = c.has_long_headers.ensures.short c.if-has_long_headers.false;
  refused = c.in-Err-add_to.ensures.refused;
}
