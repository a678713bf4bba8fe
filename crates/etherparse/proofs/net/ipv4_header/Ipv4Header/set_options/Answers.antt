use Rattle.std.proofs.Common.{rules}
use Rattle.etherparse.proofs.net.ipv4_header.Ipv4Header.set_options.Goals as goal

pub returns-clause-set : goal.returns-clause-set
returns-clause-set c = search rules
