use Rattle.std.proofs.Common.{sym, ◌∙◌}
use Rattle.packet_rewriting.proofs.Readdressed.{whole}
use Rattle.packet_rewriting.proofs.fields.port_cut.Goals as goal

pub returns-then-not-has_ports-clause-refused : goal.returns-then-not-has_ports-clause-refused
returns-then-not-has_ports-clause-refused c = (c.in-Ok.slice, c.in-Ok.ensures.found, c.if-slice.false, sym c.has_ports.ensures.value ∙ c.if-not-has_ports.true)

pub returns-then-slice-least_len-clause-refused : goal.returns-then-slice-least_len-clause-refused
returns-then-slice-least_len-clause-refused c = (
  c.in-Ok.slice,
  c.in-Ok.ensures.found,
  c.if-slice.false,
  sym c.has_ports.ensures.value ∙ c.if-not-has_ports.false,
  rw c.least_len.ensures.value at c.if-slice-least_len.true,
)

pub returns-clause-found : goal.returns-clause-found
returns-clause-found c =
    let cut = whole c.args.packet.now c.in-Ok.slice c.in-Ok.ensures.found.parts in
    record {
      slice = c.in-Ok.slice;
      parts = c.in-Ok.ensures.found;
      ports = record {
        first = c.if-slice.false;
        protocol = sym c.has_ports.ensures.value ∙ c.if-not-has_ports.false;
        enough = rw c.least_len.ensures.value at c.if-slice-least_len.false;
      };
      header_len = c.cut_of.ensures.header_len;
      payload_len = c.cut_of.ensures.payload_len;
      upper = c.cut_of.ensures.upper;
      trailer = cut.0;
      whole = cut.1;
    }
