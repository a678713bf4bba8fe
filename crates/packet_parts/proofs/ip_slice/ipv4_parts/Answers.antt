use Rattle.std.proofs.Common.{ap, not, refl, ◌==◌, ◌∙◌}
use Rattle.packet_parts.proofs.ip_slice.ipv4_parts.Goals as goal

pub returns-clause-parts : goal.returns-clause-parts
returns-clause-parts c = λ packet read begins view.
    let layout = rw view at begins.layout in
    record {
      header = read;
      begins = begins;
      view = view;
      no_extensions = refl;
      fragment = c.ipv4_fragment.ensures.value read layout;
      is_later = ap (λ n. not (n == 0)) (c.value.ensures.value ∙ c.fragments_offset.ensures.value read layout);
      upper = c.protocol.ensures.value read layout;
    }
