use Rattle.std.proofs.Common.{ℕ, Ok, ap, arith, length, length-append, refl}
use Rattle.packet.specs.declared.transport.TransportSlice.TheVariants.{Udp}
use Rattle.c_answers.proofs.Stored.{has_ports}
use Rattle.c_answers.specs.Private.Stored.{reads_udp}
use Rattle.c_answers.proofs.store.put_udp.Goals as goal

pub returns-in-Ok : goal.returns-in-Ok
returns-in-Ok c =
    let payload = c.args.payload.now in
    let reads = c.in-Ok.ensures.reads in record {
      taken = λ yes. has_ports (reads_udp c.args.place payload) c.args.place payload (Udp c.in-Ok._header c.in-Ok.rest) _ _ c.udp_at.ensures.value c.with_ports.ensures.value
          (record { inside = Ok (c.in-Ok._header, c.in-Ok.rest.now); allowed = reads; becomes = refl }) (omega (arith, ap length reads.whole, reads.layout.len, length-append {A = ℕ}));
    }
