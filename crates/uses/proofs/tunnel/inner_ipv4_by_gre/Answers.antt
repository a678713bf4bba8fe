use Rattle.std.proofs.Common.{List, ℕ, refl}
use Rattle.std.proofs.lemmas.Bool.Decides.{not_from_Decides}
use Rattle.etherparse.specs.Ipv4Header.{IsIpv4Layout}
use Rattle.etherparse.specs.Reading.{BeginsWith}
use Rattle.etherparse.specs.declared.net.ipv4_header.Ipv4Header.{Ipv4Header}
use Rattle.uses.specs.Gre.{IsGreLayout}
use Rattle.uses.specs.Tunnel.{HasGre, IsOfGre, inner, no_gre, no_inner, no_ipv4, not_gre, not_ipv4}
use Rattle.uses.specs.declared.gre.GreHeader.{GreHeader}
use Rattle.uses.proofs.tunnel.inner_ipv4_by_gre.Goals as goal

has : {packet payload inside : List ℕ} {outer : Ipv4Header} {gre : GreHeader} → BeginsWith IsIpv4Layout packet outer payload → IsOfGre outer
    → BeginsWith IsGreLayout payload gre inside → HasGre packet gre inside
has b o f = record { outer = _; payload = _; begins = b; of_gre = o; follows = f }

pub returns-in-Err : goal.returns-in-Err
returns-in-Err c = record { tells = no_ipv4 _ c.in-Err.ensures.reads.reads }

pub returns-then-not-is_of_gre : goal.returns-then-not-is_of_gre
returns-then-not-is_of_gre c = record { tells = not_gre _ _ c.in-Ok.ensures.reads.reads (not_from_Decides _ c.is_of_gre.ensures.value c.if-not-is_of_gre.true) }

pub returns-in-Err-from_slice : goal.returns-in-Err-from_slice
returns-in-Err-from_slice c =
    let gre = c.if-not-is_of_gre.ensures.value.0 refl in
    let refused = no_gre _ _ _ c.in-Ok.ensures.reads.reads gre c.in-Err-from_slice.ensures.reads in
    record { tells = rw (c.add_offset.ensures.moved, c.header_len.ensures.value) refused }

pub returns-then-gre-ne2048 : goal.returns-then-gre-ne2048
returns-then-gre-ne2048 c =
    let gre = has c.in-Ok.ensures.reads.reads (c.if-not-is_of_gre.ensures.value.0 refl) c.in-Ok-from_slice.ensures.reads in
    record { tells = not_ipv4 _ _ gre c.if-gre-ne2048.true }

pub returns-in-Ok-from_slice-2 : goal.returns-in-Ok-from_slice-2
returns-in-Ok-from_slice-2 c =
    let gre = has c.in-Ok.ensures.reads.reads (c.if-not-is_of_gre.ensures.value.0 refl) c.in-Ok-from_slice.ensures.reads in
    record { tells = inner _ _ _ _ gre c.if-gre-ne2048.false c.in-Ok-from_slice-2.ensures.reads.reads }

pub returns-in-Err-from_slice-2 : goal.returns-in-Err-from_slice-2
returns-in-Err-from_slice-2 c =
    let gre = has c.in-Ok.ensures.reads.reads (c.if-not-is_of_gre.ensures.value.0 refl) c.in-Ok-from_slice.ensures.reads in
    let refused = no_inner _ _ _ gre c.if-gre-ne2048.false c.in-Err-from_slice-2.ensures.reads.reads in
    record { tells = rw c.add_slice_offset.ensures.moved refused }
