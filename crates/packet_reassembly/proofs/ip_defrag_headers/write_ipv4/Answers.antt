use Rattle.std.proofs.Common.{◌≡◌, [], Ok, arith, refl, sym}
use Rattle.std.proofs.lemmas.List.{append-nil}
use Rattle.std.proofs.lemmas.Result.{IfErr-weaker, IfOk-at_ok, IfOk-weaker}
use Rattle.etherparse.specs.Ipv4Header.{IsIpv4Layout}
use Rattle.packet_reassembly.proofs.Kept.{too_long}
use Rattle.packet_reassembly.proofs.ip_defrag_headers.write_ipv4.Goals as goal

pub returns : goal.returns
returns c =
    let (first, layout) = c.requires.header in
    let is = c.in-Ok.ensures.reads.only (Ok (first, [])) (record { front = c.args.headers.now; whole = sym (append-nil c.args.headers.now); layout = layout }) in
    let own : IsIpv4Layout c.in-Ok.first c.args.headers.now = rw (IfOk-at_ok (λ x. x.0 ≡ first) is refl) layout in
    let marked = c.mark_ipv4.ensures.value in
    record {
      packet = IfOk-weaker c.write_ipv4_packet.result _ _ (λ len has. record { first = c.in-Ok.first; layout = own; has = rw marked at has }) c.write_ipv4_packet.ensures.packet;
      within = c.write_ipv4_packet.ensures.within;
      after = c.write_ipv4_packet.ensures.after;
      refused = IfErr-weaker c.write_ipv4_packet.result _ _ (λ _ long. record { first = c.in-Ok.first; layout = own; long = omega (arith, own.layout.len, rw marked at long) })
          (too_long c.write_ipv4_packet.result _ _ c.write_ipv4_packet.ensures.accepted);
      error = IfErr-weaker c.write_ipv4_packet.result _ _ (λ _ is. record { first = c.in-Ok.first; layout = own; is = rw marked at is }) c.write_ipv4_packet.ensures.refused;
      unchanged = c.write_ipv4_packet.ensures.unchanged;
    }
