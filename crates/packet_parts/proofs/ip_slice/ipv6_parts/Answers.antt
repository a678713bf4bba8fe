use Rattle.std.proofs.Common.{refl}
use Rattle.packet_parts.proofs.IpPackets.{whole_or_refused}
use Rattle.packet_parts.proofs.ip_slice.ipv6_parts.Goals as goal

pub returns-clause-parts : goal.returns-clause-parts
returns-clause-parts c = λ packet read begins view. record {
  header = read;
  body = _;
  begins = begins;
  view = view;
  parts = c.before-2.ensures.parts;
  decided = _;
  incomplete = _;
  ends = rw (c.next_header.ensures.value read (rw view at begins.layout)) at c.after_extensions-after.ensures.ends;
  fragment = c.placed.ensures.value;
}

pub returns-clause-stop : goal.returns-clause-stop
returns-clause-stop c = λ packet read told enough begins view.
    let ends = rw (c.next_header.ensures.value read (rw view at begins.layout)) at c.after_extensions-after.ensures.ends in
    whole_or_refused packet _ c.args.header read _ _ begins view refl told enough _ _ c.moved-stop.ensures.value ends
