use Rattle.std.proofs.Common.{rules}
use Rattle.etherparse.proofs.Fronts.{read_once}
use Rattle.etherparse_icmp.proofs.Icmpv4Layout.{tells_headers}
use Rattle.etherparse_icmp.specs.Icmpv4.{IsIcmpv4Layout, RefusesIcmpv4}
use Rattle.etherparse_icmp.proofs.icmpv4_header.Icmpv4Header.from_slice.Goals as goal

pub returns-in-Err-clause-only : goal.returns-in-Err-clause-only
returns-in-Err-clause-only c =
    λ other o. read_once IsIcmpv4Layout RefusesIcmpv4 tells_headers _ other _ o (search rules)
