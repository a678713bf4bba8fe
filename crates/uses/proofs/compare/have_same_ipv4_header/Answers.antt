use Rattle.std.proofs.Common.{subst, sym}
use Rattle.etherparse.proofs.Ipv4Reading.{read_as}
use Rattle.etherparse.specs.Ipv4Header.{IsIpv4Layout}
use Rattle.etherparse.specs.Reading.{BeginsWith}
use Rattle.uses.proofs.compare.have_same_ipv4_header.Goals as goal

pub returns-clause-same : goal.returns-clause-same
returns-clause-same c = λ e.
    let again = subst (λ s. BeginsWith IsIpv4Layout s c.in_ok-again.again c.in_ok-again.field-0-1.now) (sym e) c.in_ok-again.ensures.reads.reads in
    c.is_same_ipv4_header.ensures.same.1 (sym (read_as c.in_ok-header.ensures.reads again).0)

pub returns-clause-compared : goal.returns-clause-compared
returns-clause-compared c = record {
  header = c.in_ok-header.header;
  rest = c.in_ok-header.field-0-1.now;
  begins = c.in_ok-header.ensures.reads.reads;
  again = c.in_ok-again.again;
  rest_again = c.in_ok-again.field-0-1.now;
  begins_again = c.in_ok-again.ensures.reads.reads;
  told = c.is_same_ipv4_header.ensures.same;
}
