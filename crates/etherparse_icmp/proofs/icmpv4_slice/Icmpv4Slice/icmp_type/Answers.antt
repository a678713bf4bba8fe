use Rattle.std.proofs.Common.{Ok, rules}
use Rattle.etherparse_icmp.proofs.icmpv4_slice.Icmpv4Slice.icmp_type.Goals as goal

pub returns : goal.returns
returns c =
    record { value = λ header rest b. search (rules, c.header.ensures.only (Ok (header, rest)) b) }
