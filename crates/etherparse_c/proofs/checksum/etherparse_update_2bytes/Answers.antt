use Rattle.std.proofs.Common.{arith}
use Rattle.std.proofs.lemmas.Nat.{from_be_bytes-to_be_bytes_2}
use Rattle.etherparse_c.proofs.checksum.etherparse_update_2bytes.Goals as goal

pub returns : goal.returns
returns c =
    let first = from_be_bytes-to_be_bytes_2 c.args.old (omega (arith, c.ranges.old.fits)) in
    let second = from_be_bytes-to_be_bytes_2 c.args.new (omega (arith, c.ranges.new.fits)) in
    record { value = rw (c.to_be_bytes.ensures, c.to_be_bytes-2.ensures, first, second) at c.update_2bytes.ensures.value }
