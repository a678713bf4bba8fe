use Rattle.std.proofs.Common.{Ok, [], ◌++◌, ap, arith, length, refl, subst, sym, ◌∙◌, append-nil}
use Rattle.etherparse_base.specs.Bytes.{IsBytes}
use Rattle.etherparse.proofs.HeaderChecksum.{right_checksum}
use Rattle.etherparse.proofs.Ipv4Layout.{front_spells, spelled, spells}
use Rattle.etherparse.proofs.Ipv4Reading.{is_reading_of}
use Rattle.etherparse.specs.Ipv4Header.{IsIpv4Layout}
use Rattle.etherparse.proofs.net.ipv4_header.Ipv4Header.to_bytes.Goals as goal

pub returns : goal.returns
returns c =
    let h = c.args.self.now in
    let p = c.front_and_options.result.items in
    let bytes = c.front_and_options.ensures in
    let options = ap length c.as_slice.ensures.value in
    let e = front_spells h _ _ _ bytes.parts c.as_slice.ensures.value c.front.ensures.value in
    let layout = spells h 0 p (omega (arith, c.front.ensures)) (omega arith) (omega arith) (subst IsBytes (sym bytes.parts) bytes.are_bytes) e in
    let either : IsIpv4Layout h p = record { reserved = 0; layout = layout } in
    record {
      layout = layout;
      only = λ bytes other. spelled h 0 bytes other ∙ sym e;
      read_again = λ rest. is_reading_of (p ++ rest) (Ok (h, rest)) (record { front = p; whole = refl; layout = either });
      viewed_again = λ rest. record { header = h; rest = rest; whole = refl; layout = either };
      read_alone = is_reading_of p (Ok (h, [])) (record { front = p; whole = sym (append-nil p); layout = either });
      viewed_alone = record { header = h; rest = []; whole = sym (append-nil p); layout = either };
      sums_to_all_ones = right_checksum h 0 p layout;
    }
