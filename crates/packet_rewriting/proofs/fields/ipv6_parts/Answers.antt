use Rattle.std.proofs.Common.{◌∙◌, ap, arith, subst, sym}
use Rattle.etherparse.specs.Ipv6Header.{IsIpv6Layout}
use Rattle.packet_parts.specs.IpSlice.{header_bytes}
use Rattle.packet_rewriting.proofs.Readdressed.{whole}
use Rattle.packet_rewriting.specs.Fields.{Reaches, version_in}
use Rattle.packet_rewriting.proofs.fields.ipv6_parts.Goals as goal

pub returns-in-None-clause-refused : goal.returns-in-None-clause-refused
returns-in-None-clause-refused c = (c.in-Ok.slice, c.in-Ok.ensures.found, ap version_in c.in-Ipv6.is, c.in-None.ensures.none)

pub returns-in-Some-clause-found : goal.returns-in-Some-clause-found
returns-in-Some-clause-found c =
    let cut = whole c.args.packet.now c.in-Ok.slice c.in-Ok.ensures.found.parts in
    record {
      slice = c.in-Ok.slice;
      parts = c.in-Ok.ensures.found;
      version = ap version_in c.in-Ipv6.is;
      layout = subst (IsIpv6Layout c.to_header.result) (sym (ap header_bytes c.in-Ipv6.is)) c.to_header.ensures.layout;
      header_len = c.cut_of.ensures.header_len;
      payload_len = c.cut_of.ensures.payload_len;
      upper = c.cut_of.ensures.upper;
      reaches = subst (Reaches c.in-Ok.slice) (sym c.cut_of.ensures.reach) c.in-Some.ensures.found;
      trailer = cut.0;
      whole = cut.1;
    }

pub returns-in-Ipv4-clause-refused : goal.returns-in-Ipv4-clause-refused
returns-in-Ipv4-clause-refused c = (c.in-Ok.slice, c.in-Ok.ensures.found, λ six. omega (arith, sym (ap version_in c.in-Ipv4.is) ∙ six))
