use Rattle.std.proofs.Common.{◌≡◌, ◌+◌, ◌++◌, ap, arith, length, length-append, refl}
use Rattle.std.proofs.lemmas.Result.{err_from_is_err_and}
use Rattle.packet_builder.proofs.BuiltHeaders.{same_tcp_checksum, written}
use Rattle.packet_builder.proofs.Parts.{weaker}
use Rattle.packet_builder.proofs.tcp_step.TcpStep.write_to_slice.Goals as goal

pub returns-clause-packet : goal.returns-clause-packet
returns-clause-packet c =
    let headers = c.args.self.headers in
    let payload = c.args.payload.now in
    let put = c.in_ok-at.ensures in
    let upper = c.put_upper in
    let made = c.header_over.ensures.made in
    let tcp = c.header_over.result in
    let bytes = c.as_slice.result.now in
    let n = c.header_len.result + length payload in
    let len : length (bytes ++ payload) ≡ n = omega (arith, length-append bytes payload, ap length c.as_slice.ensures.value, c.to_bytes-tcp.ensures.layout.len, ap (λ h. length h.options) made.fields, c.header_len.ensures.value) in
    weaker upper.result c.args.slice.now upper.new.out
    (written headers 6 n c.in_ok-at.at upper.result c.args.slice.now c.put.new.out upper.new.out (bytes ++ payload) len
    put.writes put.end (put.accepted.0 refl).1 upper.ensures.writes upper.ensures.end) (λ packet has_headers. record {
      tcp = tcp;
      bytes = bytes;
      is_tcp = record {
        fields = made.fields;
        checksum = same_tcp_checksum headers.ip c.put.new.self.ip 6 n put.made tcp payload tcp.checksum made.checksum;
      };
      layout = rw (c.as_slice.ensures.value) c.to_bytes-tcp.ensures.layout;
      has_headers = has_headers;
    })

pub returns-in_err-at-clause-accepted : goal.returns-in_err-at-clause-accepted
returns-in_err-at-clause-accepted c =
    let error = err_from_is_err_and c.from_residual.result c.from_residual.ensures.1 in
    rw (error.1, ← c.header_len.ensures.value) c.in_err-at.ensures.accepted

pub returns-in_err-at-clause-refused : goal.returns-in_err-at-clause-refused
returns-in_err-at-clause-refused c =
    let error = err_from_is_err_and c.from_residual.result c.from_residual.ensures.1 in
    rw (error.1, error.2, ← c.header_len.ensures.value) c.in_err-at.ensures.refused

pub put_upper-requires : goal.put_upper-requires
put_upper-requires c =
    let put = c.in_ok-at.ensures in
    let payload = c.args.payload.now in
    record { room = omega (arith, length-append c.as_slice.result.now payload, ap length c.as_slice.ensures.value, c.to_bytes-tcp.ensures.layout.len, ap (λ h. length h.options) c.header_over.ensures.made.fields, c.header_len.ensures.value, put.end, put.writes.same_len, (put.accepted.0 refl).1) }

pub returns-clause-accepted : goal.returns-clause-accepted
returns-clause-accepted c = rw (c.header_len.ensures.value) at c.in_ok-at.ensures.accepted
