use Rattle.std.proofs.KnownBytes.{Appends-trans}
use Rattle.iphead.proofs.lines.write_fixed_fields.Goals as goal

pub returns : goal.returns
returns g c = record {
  appends = λ h layout.
      Appends-trans _ _ _ _ _ (rw c.version.ensures.value at c.in_ok-write_field.ensures.appends)
      (Appends-trans _ _ _ _ _ (rw (c.ihl.ensures.value h layout) at c.in_ok-write_field-2.ensures.appends)
      (Appends-trans _ _ _ _ _ (rw (c.dcp.ensures.value h layout) at c.in_ok-write_field-3.ensures.appends)
      (Appends-trans _ _ _ _ _ (rw (c.ecn.ensures.value h layout) at c.in_ok-write_field-4.ensures.appends)
      (Appends-trans _ _ _ _ _ (rw (c.total_len.ensures.value h layout) at c.in_ok-write_field-5.ensures.appends)
      (Appends-trans _ _ _ _ _ (rw (c.identification.ensures.value h layout) at c.in_ok-write_field-6.ensures.appends)
      (Appends-trans _ _ _ _ _ (rw (c.dont_fragment.ensures.value h layout) at c.in_ok-write_field-7.ensures.appends)
      (Appends-trans _ _ _ _ _ (rw (c.more_fragments.ensures.value h layout) at c.in_ok-write_field-8.ensures.appends)
      (Appends-trans _ _ _ _ _ (rw (c.fragments_offset.ensures.value h layout) at c.in_ok-write_field-9.ensures.appends)
      (Appends-trans _ _ _ _ _ (rw (c.ttl.ensures.value h layout) at c.in_ok-write_field-10.ensures.appends)
      (Appends-trans _ _ _ _ _ (rw (c.protocol.view_is, c.protocol-protocol.ensures.value h layout) at c.in_ok-write_field-11.ensures.appends)
      (Appends-trans _ _ _ _ _ (rw (c.to_be_bytes.ensures, c.header_checksum.ensures.value h layout) at c.in_ok-write_hex_field.ensures.appends)
      (Appends-trans _ _ _ _ _ (rw (c.source.ensures.value h layout) at c.in_ok-write_field-12.ensures.appends)
      (rw (c.destination.ensures.value h layout) at c.in_ok-write_field-13.ensures.appends)))))))))))));
}
