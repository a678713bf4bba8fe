use Rattle.std.proofs.Common.{◌≡◌, ◌+◌, ◌++◌, ap, arith, length, length-append, refl}
use Rattle.std.proofs.lemmas.Result.{err_from_is_err_and}
use Rattle.packet_builder.proofs.BuiltHeaders.{written}
use Rattle.packet_builder.proofs.Parts.{weaker}
use Rattle.packet_builder.proofs.icmpv6_step.Icmpv6Step.write_to_slice.Goals as goal

pub returns-clause-packet : goal.returns-clause-packet
returns-clause-packet c =
    let headers = c.args.self.headers in
    let payload = c.args.payload.now in
    let put = c.in_ok-at.ensures in
    let upper = c.put_upper in
    let made = c.header_between-icmp in
    let bytes = c.to_bytes.result in
    let n = 8 + length payload in
    let computed = rw (ap (λ h. h.source) c.ip.view_is, ap (λ h. h.destination) c.ip.view_is) at made.ensures.computed in
    let is_written = rw (made.ensures.icmp_type) at c.to_bytes.ensures.layout in
    let len : length (bytes ++ payload) ≡ n = omega (arith, length-append bytes payload, is_written.layout.len) in
    weaker upper.result c.args.slice.now upper.new.out
    (written headers 58 n c.in_ok-at.at upper.result c.args.slice.now c.put.new.out upper.new.out (bytes ++ payload) len
    put.writes put.end (put.accepted.0 refl).1 upper.ensures.writes upper.ensures.end) (λ packet has_headers. record {
      checksum = made.result.checksum;
      bytes = bytes;
      is_checksum = rw (c.in-Ipv6.is) computed;
      written = is_written;
      has_headers = has_headers;
    })

pub returns-in_err-at-clause-accepted : goal.returns-in_err-at-clause-accepted
returns-in_err-at-clause-accepted c =
    let error = err_from_is_err_and c.from_residual.result c.from_residual.ensures.1 in
    let fits = c.in_err-at.ensures.accepted in
    rw (error.1) (λ e. (rw (c.in-Ipv6.is) tt, fits.0 e), λ p. fits.1 p.1)

pub put_upper-requires : goal.put_upper-requires
put_upper-requires c =
    let put = c.in_ok-at.ensures in
    let payload = c.args.payload.now in
    let is_written = rw (c.header_between-icmp.ensures.icmp_type) at c.to_bytes.ensures.layout in
    record { room = omega (arith, length-append c.to_bytes.result payload, is_written.layout.len, put.end, put.writes.same_len, (put.accepted.0 refl).1) }

pub returns-clause-accepted : goal.returns-clause-accepted
returns-clause-accepted c = (λ e. (rw (c.in-Ipv6.is) tt, c.in_ok-at.ensures.accepted.0 e), λ p. refl)
