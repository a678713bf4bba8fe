use Rattle.std.proofs.Common.{◌≡◌, ◌++◌, ◌∙◌, ap, append_assoc, arith, length, subst, sym}
use Rattle.etherparse.specs.Ipv4Header.{IsIpv4Layout}
use Rattle.packet_parts.proofs.IpParts.{ipv4_front}
use Rattle.packet_parts.specs.IpSlice.{HasIpv4Parts, HasPartsWith, header_bytes}
use Rattle.packet_rewriting.specs.Fields.{Reaches, version_in}
use Rattle.packet_rewriting.proofs.fields.ipv4_parts.Goals as goal

pub returns-in-None-clause-refused : goal.returns-in-None-clause-refused
returns-in-None-clause-refused c = (c.in-Ok.slice, c.in-Ok.ensures.found, ap version_in c.in-Ipv4.is, c.in-None.ensures.none)

pub returns-in-Some-clause-found : goal.returns-in-Some-clause-found
returns-in-Some-clause-found c =
    let slice = c.in-Ok.slice in
    let packet = c.args.packet.now in
    let parts : HasIpv4Parts packet c.in-Ipv4.view.slice.now slice = subst (λ h. HasPartsWith h packet slice) c.in-Ipv4.is c.in-Ok.ensures.found.parts in
    let front : parts.begins.front ≡ header_bytes slice.header = parts.view ∙ sym (ap header_bytes c.in-Ipv4.is) in
    let more = ipv4_front parts.header packet in
    record {
      slice = slice;
      parts = c.in-Ok.ensures.found;
      version = ap version_in c.in-Ipv4.is;
      layout = subst (IsIpv4Layout c.to_header.result) (sym (ap header_bytes c.in-Ipv4.is)) c.to_header.ensures.layout;
      header_len = c.cut_of.ensures.header_len ∙ omega (arith, ap length parts.no_extensions);
      payload_len = c.cut_of.ensures.payload_len;
      upper = c.cut_of.ensures.upper;
      reaches = subst (Reaches slice) (sym c.cut_of.ensures.reach) c.in-Some.ensures.found;
      trailer = more.0;
      whole = more.1 ∙ ap (λ b. b ++ more.0) (parts.begins.whole ∙ ap (λ f. f ++ slice.payload.now) front) ∙ append_assoc (header_bytes slice.header) slice.payload.now more.0;
    }

pub returns-in-Ipv6-clause-refused : goal.returns-in-Ipv6-clause-refused
returns-in-Ipv6-clause-refused c = (c.in-Ok.slice, c.in-Ok.ensures.found, λ four. omega (arith, sym (ap version_in c.in-Ipv6.is) ∙ four))
