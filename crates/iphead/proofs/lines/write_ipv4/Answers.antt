use Rattle.std.proofs.KnownBytes.{Appends-trans}
use Rattle.iphead.proofs.lines.write_ipv4.Goals as goal

pub returns : goal.returns
returns g c = record {
  appends = λ h layout.
      let computed = c.calc_header_checksum-computed.ensures.value _ c.to_header.ensures.cleared in
      Appends-trans _ _ _ _ _ (c.in_ok-write_fixed_fields.ensures.appends h layout)
      (Appends-trans _ _ _ _ _ (rw (c.options.ensures.value h layout) at c.in_ok-write_options.ensures.appends)
      (Appends-trans _ _ _ _ _ (rw (c.to_be_bytes.ensures, computed) at c.in_ok-write_hex_field.ensures.appends)
      (Appends-trans _ _ _ _ _ (rw c.good_or_bad.ensures.text at c.in_ok-write_field.ensures.appends) c.in_ok-write_field-2.ensures.appends)));
}
