use Rattle.std.proofs.Common.{◌+◌, ◌++◌, arith}
use Rattle.std.proofs.lemmas.Bool.Decides.{nat_tests}
use Rattle.std.proofs.lemmas.List.{take_rest}
use Rattle.packet_rewriting.specs.UpperChecksum.{checksum_place, with_checksum}
use Rattle.packet_rewriting.proofs.ChecksumWords.{summed}
use Rattle.packet_rewriting.proofs.checksum.complement.Goals as goal

pub returns-then-eq : goal.returns-then-eq
returns-then-eq c = record {
  value = λ front even stands.
      let sums = summed c.args.number front c.args.covered.now _ _ _ even c.requires.enough stands (rw c.place_of_checksum-place.ensures.value at c.add_slice.ensures.adds)
      (rw (c.place_of_checksum-place.ensures.value, take_rest c.args.covered.now (checksum_place c.args.number + 2)) at c.add_slice-sum.ensures.adds) in
      grind (arith, nat_tests, c.swap_bytes.ensures, c.to_ones_complement_with_no_zero.ensures.complements.network_order (front ++ with_checksum c.args.number 0 c.args.covered.now) sums);
}

pub returns-else-eq : goal.returns-else-eq
returns-else-eq c = record {
  value = λ front even stands.
      let sums = summed c.args.number front c.args.covered.now _ _ _ even c.requires.enough stands (rw c.place_of_checksum-place.ensures.value at c.add_slice.ensures.adds)
      (rw (c.place_of_checksum-place.ensures.value, take_rest c.args.covered.now (checksum_place c.args.number + 2)) at c.add_slice-sum.ensures.adds) in
      grind (arith, nat_tests, c.swap_bytes-else-eq.ensures, c.ones_complement.ensures.complements.network_order (front ++ with_checksum c.args.number 0 c.args.covered.now) sums);
}
