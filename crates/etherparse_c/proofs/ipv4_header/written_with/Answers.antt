use Rattle.std.proofs.Common.{rules}
use Rattle.etherparse_c.proofs.Answered.{answered}
use Rattle.etherparse_c.proofs.Fields.{written_ipv4_layout}
use Rattle.etherparse_c.proofs.ipv4_header.written_with.Goals as goal

pub returns-in-Some-clause-layout : goal.returns-in-Some-clause-layout
returns-in-Some-clause-layout g c = λ within.
    let stands = c.in-Some.ensures.1 in
    let written = c.to_bytes-written.ensures in
    answered c.to_bytes-written.result.items (record { header = c.in-Some.header; same = stands; layout = written.layout })
    (λ bytes other. written.only bytes (written_ipv4_layout c.args.fields.now c.in-Some.header bytes stands other))
    (search rules)

pub returns-in-Some-clause-refused : goal.returns-in-Some-clause-refused
returns-in-Some-clause-refused g c = λ out. absurd (out c.in-Some.ensures.0)
