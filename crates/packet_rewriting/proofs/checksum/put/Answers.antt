use Rattle.std.proofs.Common.{◌≡◌, ◌+◌, ◌-◌, length, arith, sym}
use Rattle.packet_rewriting.proofs.ChecksumWords.{overwritten}
use Rattle.packet_rewriting.proofs.checksum.put.Goals as goal

pub returns : goal.returns
returns c =
    let len : c.args.place + length c.args.part.now - c.args.place ≡ length c.args.part.now = omega arith in
    record { written = rw (c.copy_from_slice.ensures.after, len) (sym (overwritten c.args.place c.args.part.now c.args.bytes.now c.requires.within)) }
