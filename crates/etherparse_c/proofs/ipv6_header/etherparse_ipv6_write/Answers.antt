use Rattle.std.proofs.Common.{◌≡◌, append-nil, rules}
use Rattle.etherparse_c.proofs.Answered.{answered}
use Rattle.etherparse_c.proofs.ipv6_header.etherparse_ipv6_write.Goals as goal

pub returns-in-Some-clause-layout : goal.returns-in-Some-clause-layout
returns-in-Some-clause-layout c = λ within.
    let fields = c.in-Some.ensures.1 in
    let written = c.to_bytes.ensures in
    answered c.to_bytes.result (record { header = c.in-Some.header; same = fields; layout = written.layout })
    (λ bytes other. let one : other.header ≡ c.in-Some.header = search (rules, fields, other.same) in written.only bytes (rw one at other.layout))
    (rw (written.layout.len, append-nil))
