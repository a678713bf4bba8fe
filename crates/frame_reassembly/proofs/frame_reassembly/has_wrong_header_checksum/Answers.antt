use Rattle.std.proofs.Common.{Ok, arith, rules}
use Rattle.frame_reassembly.proofs.frame_reassembly.has_wrong_header_checksum.Goals as goal

pub returns-in-Ok : goal.returns-in-Ok
returns-in-Ok c = record {
  value = (
    (λ is. record { header = c.in-Ok.view.slice.now; begins = c.in-Ok.ensures.views; wrong = search rules }),
    λ w. let only = c.in-Ok.ensures.only (Ok w.header) w.begins in grind arith,
  );
}
