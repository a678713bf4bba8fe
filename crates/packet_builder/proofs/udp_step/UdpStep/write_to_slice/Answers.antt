use Rattle.std.proofs.Common.{◌≡◌, ◌+◌, ◌++◌, arith, length, length-append, refl}
use Rattle.packet_builder.proofs.BuiltHeaders.{same_udp_checksum, written}
use Rattle.packet_builder.proofs.Parts.{weaker}
use Rattle.packet_builder.proofs.udp_step.UdpStep.write_to_slice.Goals as goal

pub returns-clause-packet : goal.returns-clause-packet
returns-clause-packet c =
    let headers = c.args.self.headers in
    let payload = c.args.payload.now in
    let put = c.in_ok-at.ensures in
    let upper = c.put_upper in
    let udp = c.header_over-udp in
    let bytes = c.to_bytes.result in
    let n = 8 + length payload in
    let len : length (bytes ++ payload) ≡ n = omega (arith, length-append bytes payload, c.to_bytes.ensures.layout.len) in
    weaker upper.result c.args.slice.now upper.new.out
    (written headers 17 n c.in_ok-at.at upper.result c.args.slice.now c.put.new.out upper.new.out (bytes ++ payload) len
    put.writes put.end (put.accepted.0 refl).1 upper.ensures.writes upper.ensures.end) (λ packet has_headers. record {
      udp = udp.result;
      bytes = bytes;
      is_udp = record {
        fields = udp.ensures.made.fields;
        checksum = same_udp_checksum headers.ip c.put.new.self.ip 17 n put.made udp.result payload udp.result.checksum udp.ensures.made.checksum;
      };
      layout = c.to_bytes.ensures.layout;
      has_headers = has_headers;
    })
