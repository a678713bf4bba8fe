use Rattle.packet_reassembly.proofs.Arrivals.{stands_more, stands_refused}
use Rattle.packet_reassembly.proofs.reassemble.add_or_pass.Goals as goal

pub returns-in-Ok : goal.returns-in-Ok
returns-in-Ok c = record { stands = λ fragments stands. stands_more fragments _ c.args.buf.now c.add.new.self stands c.in-Ok.ensures.taken c.in-Ok.ensures.right }

pub returns-in-Err : goal.returns-in-Err
returns-in-Err c = record {
  stands = λ fragments stands. rw c.in-Err.ensures.unchanged (stands_refused fragments _ c.args.buf.now c.in-Err.field-0 stands c.in-Err.ensures.refused);
}
