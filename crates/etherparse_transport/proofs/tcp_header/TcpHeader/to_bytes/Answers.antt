use Rattle.std.proofs.Common.{ap, arith, length, refl, subst, sym, ◌∙◌}
use Rattle.etherparse.specs.Bytes.{IsBytes}
use Rattle.etherparse_transport.proofs.TcpLayout.{front_spells, spelled, spells}
use Rattle.etherparse_transport.proofs.TcpReading.{layout_viewed}
use Rattle.etherparse_transport.proofs.tcp_header.TcpHeader.to_bytes.Goals as goal

pub returns : goal.returns
returns c =
    let h = c.args.self.now in
    let p = c.joined.result.items in
    let bytes = c.joined.ensures in
    let options = ap length c.as_slice.ensures.value in
    let e = front_spells h _ _ _ bytes.parts c.as_slice.ensures.value c.front.ensures.value in
    let layout = spells h 0 p (omega (arith, c.front.ensures)) (omega arith) (omega arith)
    (subst IsBytes (sym bytes.parts) bytes.are_bytes) e in
    record {
      layout = layout;
      only = λ bytes other. spelled h 0 bytes other ∙ sym e;
      read_again = λ rest. record {
        front = p;
        whole = refl;
        layout = record { reserved = 0; layout = layout };
      };
      viewed_again = λ rest. layout_viewed h 0 p rest layout;
    }
