use Rattle.std.proofs.Common.{◌+◌, ◌-◌, arith, drop, length, length-append, refl, take, ◌++◌}
use Rattle.std.proofs.lemmas.List.{length-drop, length-take-le}
use Rattle.std.proofs.lemmas.Slice.{drop-put_mid, take-put_mid}
use Rattle.packet_builder.proofs.writing.put.Goals as goal

pub returns-clause-writes : goal.returns-clause-writes
returns-clause-writes c =
    let at = c.args.at in
    let part = c.args.part.now in
    let old = c.args.out.now in
    let k = at + length part - at in
    let rest = drop k (drop at old) in
    rw (c.copy_from_slice.ensures.after) (record {
      part = part;
      is_such = refl;
      joined = take-put_mid at k old part (at + length part) refl (omega (arith, c.requires.room));
      after = drop-put_mid at k old part (at + length part) (omega arith) (omega (arith, c.requires.room)) (omega arith);
      same_len = omega (arith, c.requires.room, length-append (take at old) (part ++ rest), length-append part rest, length-take-le at old (omega (arith, c.requires.room)), length-drop k (drop at old), length-drop at old);
    })
