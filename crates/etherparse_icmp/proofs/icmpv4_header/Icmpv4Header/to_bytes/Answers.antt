use Rattle.std.proofs.Common.{refl, sym, ◌∙◌}
use Rattle.etherparse_icmp.proofs.Icmpv4Layout.{cleared, spelled}
use Rattle.etherparse_icmp.proofs.icmpv4_header.Icmpv4Header.to_bytes.Goals as goal

pub returns : goal.returns
returns c =
    let h = c.args.self.now in
    let written = c.bytes_with.ensures.written in
    record {
      layout = written;
      only = λ bytes other. spelled h.icmp_type h.checksum bytes other
          ∙ sym (spelled h.icmp_type h.checksum _ written);
      cleared = λ bytes other. spelled h.icmp_type h.checksum _ written
          ∙ sym (cleared h.icmp_type h.checksum bytes other);
      read_again = λ as_read rest. record {
        front = c.bytes_with.result.items;
        whole =
            refl;
        layout = record { layout = written.layout; as_read = as_read };
      };
    }
