use Rattle.std.proofs.Common.{◌∙◌, ◌++◌, List, ℕ, ap, false, refl}
use Rattle.etherparse.specs.declared.net.ipv4_header.Ipv4Header.{Ipv4Header}
use Rattle.packet_reassembly.proofs.packet.write_ipv4_packet.Goals as goal

pub returns-clause-packet : goal.returns-clause-packet
returns-clause-packet c =
    let finish : Ipv4Header → Ipv4Header = λ h. record h { more_fragments = false; fragment_offset = 0; header_checksum = c.calc_header_checksum.result } in
    record {
      header = finish c.set_payload_len.new.self;
      begins = record {
        front = c.to_bytes.result.items;
        whole = c.join.ensures.joined ∙ ap (λ (front : List ℕ). front ++ c.args.payload.now) c.as_slice.ensures.value;
        layout = record { reserved = 0; layout = c.to_bytes.ensures.layout };
      };
      fields = ap finish c.in_ok-set_payload_len.ensures.set;
      reserved = refl;
      checksum = c.calc_header_checksum.ensures.whatever_is_stored c.calc_header_checksum.result c.to_bytes.result.items c.to_bytes.ensures.layout;
    }
