use Rattle.std.proofs.Common.{ap}
use Rattle.std.proofs.lemmas.List.{take_rest}
use Rattle.packet_rewriting.proofs.fields.original_in.Goals as goal

pub returns : goal.returns
returns c = record {
  comes_from = rw (c.source_in.ensures.value, take_rest c.args.front.now 40, ap (λ h. h.next_header) c.header.view_is) at c.original_source_ipv6.ensures.comes_from;
}
