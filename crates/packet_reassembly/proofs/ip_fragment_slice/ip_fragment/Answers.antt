use Rattle.std.proofs.Common.{ℕ, ◌≡◌, ◌≢◌, ◌+◌, ◌-◌, ◌≤◌, ◌∙◌, ◌++◌, Err, Ok, ap, append_assoc, arith, drop, length, length-append, slice_range, subst, sym, take}
use Rattle.std.proofs.lemmas.List.{drop_at}
use Rattle.etherparse.specs.Ipv6Header.{IsIpv6Layout}
use Rattle.etherparse.specs.Reading.{BeginsWith}
use Rattle.packet_parts.proofs.IpParts.{begins_4, cut_front, ipv6_front, is_version_4, packet_len_4, packet_len_6}
use Rattle.packet_parts.specs.IpSlice.{HasIpv4Parts, HasIpv6Parts, HasPartsWith, ipv6_trimmed, packet_len_of}
use Rattle.packet_reassembly.proofs.IpFragments.{all_bytes_6, only_this}
use Rattle.packet_reassembly.proofs.ip_fragment_slice.ip_fragment.Goals as goal

pub returns-in-Ipv4 : goal.returns-in-Ipv4
returns-in-Ipv4 c =
    let p : HasIpv4Parts c.args.packet.now c.in-Ipv4.view.slice.now c.in-Ok.slice = subst (λ h. HasPartsWith h c.args.packet.now c.in-Ok.slice) c.in-Ipv4.is c.in-Ok.ensures.parts in
    let is = packet_len_4 c.in-Ipv4.view p.header p.begins.front p.begins.layout p.view in
    let version = is_version_4 c.args.packet.now p.header _ (begins_4 c.args.packet.now _ c.in-Ok.slice p) in
    let told : p.header.total_len ≢ 0 = λ zero. omega (arith, version, c.in-Ok.ensures.untold_is_ipv6 (ap packet_len_of c.in-Ipv4.is ∙ (is ∙ zero))) in
    let enough : p.header.total_len ≤ length c.args.packet.now = rw is at (subst (λ h. packet_len_of h ≤ length c.args.packet.now) c.in-Ipv4.is c.in-Ok.ensures.enough) in
    let found = c.ipv4_fragment.ensures.found c.args.packet.now p.header told enough p.begins p.view in
    let none = c.ipv4_fragment.ensures.none c.args.packet.now p.header told enough p.begins p.view in
    record { found = found; none = none; refused = tt; only = only_this c.args.packet.now (Ok c.ipv4_fragment.result) found none tt }

pub returns-in-Ipv6 : goal.returns-in-Ipv6
returns-in-Ipv6 c =
    let p : HasIpv6Parts c.args.packet.now c.in-Ipv6.view.slice.now c.in-Ok.slice = subst (λ h. HasPartsWith h c.args.packet.now c.in-Ok.slice) c.in-Ipv6.is c.in-Ok.ensures.parts in
    let value = c.payload_length.ensures.value p.header (rw p.view at p.begins.layout) in
    let n : 40 + c.from-len.result - 40 ≡ p.header.payload_length = omega (arith, value, c.from-len.ensures) in
    let (more, is_front) = ipv6_front p.header c.args.packet.now in
    let all : c.args.packet.now ≡ p.begins.front ++ (p.body ++ more) = is_front ∙ ap (λ x. x ++ more) p.begins.whole ∙ append_assoc p.begins.front p.body more in
    let body : slice_range c.args.packet.now 40 (40 + c.from-len.result) ≡ take p.header.payload_length (p.body ++ more) = rw n (ap (take p.header.payload_length) (ap (drop 40) all ∙ drop_at p.begins.front (p.body ++ more) 40 p.begins.layout.len)) in
    let cut = cut_front c.args.packet.now p.begins.front (p.body ++ more) p.header.payload_length (40 + p.header.payload_length) all (omega (arith, p.begins.layout.len)) in
    let begins : BeginsWith IsIpv6Layout (ipv6_trimmed p.header c.args.packet.now) p.header (slice_range c.args.packet.now 40 (40 + c.from-len.result)) =
    record { front = p.begins.front; whole = cut ∙ ap (λ x. p.begins.front ++ x) (sym body); layout = p.begins.layout } in
    let told = packet_len_6 c.in-Ipv6.view p.header p.begins.front p.begins.layout p.view in
    let there = rw told at (subst (λ h. packet_len_of h ≤ length c.args.packet.now) c.in-Ipv6.is c.in-Ok.ensures.enough) in
    let enough : 40 + p.header.payload_length ≤ length c.args.packet.now =
    all_bytes_6 p.header.payload_length p.header.next_header (length c.args.packet.now) there (omega (arith, ap length all, length-append {A = ℕ}, p.begins.layout.len)) in
    let found = c.ipv6_fragment.ensures.found c.args.packet.now p.header enough begins p.view (ap (λ i. take i c.args.packet.now) (omega (arith, value, c.from-len.ensures))) in
    let none = c.ipv6_fragment.ensures.none c.args.packet.now p.header enough begins p.view in
    let refused = c.ipv6_fragment.ensures.refused c.args.packet.now p.header enough begins p.view in
    record { found = found; none = none; refused = refused; only = only_this c.args.packet.now c.ipv6_fragment.result found none refused }

pub returns-in-Err-clause-only : goal.returns-in-Err-clause-only
returns-in-Err-clause-only c = only_this c.args.packet.now (Err c.in-Err.e) tt tt c.in-Err.ensures.refused
