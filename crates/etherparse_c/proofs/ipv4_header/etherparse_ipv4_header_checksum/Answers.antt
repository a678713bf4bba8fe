use Rattle.std.proofs.Common.{refl}
use Rattle.etherparse_c.proofs.Fields.{written_ipv4_layout}
use Rattle.etherparse_c.proofs.ipv4_header.etherparse_ipv4_header_checksum.Goals as goal

pub returns-in-Some-clause-value : goal.returns-in-Some-clause-value
returns-in-Some-clause-value c = λ within. (
  refl,
  λ bytes written. c.calc_header_checksum.ensures.value bytes
      (written_ipv4_layout c.args.fields.now c.in-Some.header bytes c.in-Some.ensures.1 written),
)
