use Rattle.etherparse.proofs.Fronts.{read_once}
use Rattle.etherparse_icmp.proofs.Icmpv4Layout.{tells_headers}
use Rattle.etherparse_icmp.proofs.Rests.{begins_with}
use Rattle.etherparse_icmp.specs.Icmpv4.{IsIcmpv4Layout, RefusesIcmpv4}
use Rattle.etherparse_icmp.proofs.icmpv4_slice.Icmpv4Slice.header.Goals as goal

pub returns : goal.returns
returns c =
    let layout = rw c.header_len.ensures.value at c.header_in.ensures.layout in
    let begins = begins_with IsIcmpv4Layout _ _ _ layout in
    let once = read_once IsIcmpv4Layout RefusesIcmpv4 tells_headers _ in
    record { reads = begins; only = λ other o. once other _ o begins }
