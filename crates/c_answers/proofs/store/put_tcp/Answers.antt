use Rattle.std.proofs.Common.{Ok, ◌-◌, arith, drop, length, refl, take}
use Rattle.std.proofs.lemmas.List.{take_rest}
use Rattle.packet.specs.declared.transport.TransportSlice.TheVariants.{Tcp}
use Rattle.c_answers.proofs.Stored.{has_ports}
use Rattle.c_answers.specs.Private.Stored.{reads_tcp}
use Rattle.c_answers.proofs.store.put_tcp.Goals as goal

pub returns-in-Ok : goal.returns-in-Ok
returns-in-Ok c =
    let payload = c.args.payload.now in
    let front = c.in-Ok.header.slice.now in
    let found = Tcp c.in-Ok.header (record c.args.payload { now = take (length payload - length front) (drop (length front) payload) }) in record {
      taken = λ yes. has_ports (reads_tcp c.args.place payload) c.args.place payload found _ _ c.tcp_at.ensures.value c.with_ports.ensures.value
          (rw (take_rest payload (length front)) (record { inside = Ok front; allowed = c.in-Ok.ensures.views; becomes = refl })) (omega (arith, c.in-Ok.ensures.views.says.enough));
    }
