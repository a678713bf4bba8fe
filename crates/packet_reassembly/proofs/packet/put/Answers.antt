use Rattle.std.proofs.Common.{◌+◌, ◌-◌, arith, length}
use Rattle.std.proofs.lemmas.Slice.{drop-put_mid}
use Rattle.packet_reassembly.proofs.packet.put.Goals as goal

pub returns-clause-after : goal.returns-clause-after
returns-clause-after c = λ n from.
    let end = c.args.at + length c.args.part.now in
    rw c.copy_from_slice.ensures.after (drop-put_mid c.args.at (end - c.args.at) c.args.out.now c.args.part.now n (omega arith) (omega (arith, c.requires.room)) (omega arith))
