use Rattle.std.proofs.KnownBytes.{Appends-trans}
use Rattle.iphead.proofs.lines.write_ipv6.Goals as goal

pub returns : goal.returns
returns g c = record {
  appends = λ h layout.
      Appends-trans _ _ _ _ _ (rw c.version.ensures.value at c.in_ok-write_field.ensures.appends)
      (Appends-trans _ _ _ _ _ (rw (c.traffic_class.ensures.value h layout) at c.in_ok-write_field-2.ensures.appends)
      (Appends-trans _ _ _ _ _ (rw (c.flow_label.ensures.value h layout) at c.in_ok-write_field-3.ensures.appends)
      (Appends-trans _ _ _ _ _ (rw (c.payload_length.ensures.value h layout) at c.in_ok-write_field-4.ensures.appends)
      (Appends-trans _ _ _ _ _ (rw (c.next_header.view_is, c.next_header-next_header.ensures.value h layout) at c.in_ok-write_field-5.ensures.appends)
      (Appends-trans _ _ _ _ _ (rw (c.hop_limit.ensures.value h layout) at c.in_ok-write_field-6.ensures.appends)
      (Appends-trans _ _ _ _ _ (rw (c.source.ensures.value h layout) at c.in_ok-write_hex_field.ensures.appends)
      (rw (c.destination.ensures.value h layout) at c.in_ok-write_hex_field-2.ensures.appends)))))));
}
