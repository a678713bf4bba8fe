use Rattle.std.proofs.Common.{rules}
use Rattle.etherparse.proofs.net.ipv4_header.Ipv4Header.set_payload_len.Goals as goal

pub returns-then-value-max_allowed-clause-unchanged : goal.returns-then-value-max_allowed-clause-unchanged
returns-then-value-max_allowed-clause-unchanged c = search rules

pub returns-clause-set : goal.returns-clause-set
returns-clause-set c = search rules
