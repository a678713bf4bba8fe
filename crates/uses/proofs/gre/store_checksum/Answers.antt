use Rattle.std.proofs.Common.{◌≡◌, ◌+◌, ◌*◌, ◌<◌, arith, length, refl, slice_index, slice_set}
use Rattle.std.proofs.lemmas.Grind.{common_steps}
use Rattle.etherparse.proofs.WordSumLaws.{sums_to_all_ones-written}
use Rattle.etherparse.specs.WordSums.{folded_sum, little_endian_word_sum}
use Rattle.uses.proofs.gre.store_checksum.Goals as goal

pub returns-clause-all_ones : goal.returns-clause-all_ones
returns-clause-all_ones c =
    let zeroed = slice_set (slice_set c.args.packet.now 4 0) 5 0 in
    let checksum = c.ones_complement-checksum in
    let sums : folded_sum (little_endian_word_sum zeroed) ≡ folded_sum c.add_slice.result = grind (arith, c.new.ensures.zero, c.add_slice.ensures.adds.sum) in
    let within : 5 < length zeroed = grind (arith, common_steps) in
    let fourth : slice_index zeroed 4 ≡ 0 = grind (arith, common_steps) in
    let fifth : slice_index zeroed 5 ≡ 0 = grind (arith, common_steps) in
    let bytes : slice_index c.to_le_bytes.result 0 + 256 * slice_index c.to_le_bytes.result 1 ≡ checksum.result = grind (arith, common_steps) in
    sums_to_all_ones-written zeroed 4 _ _ checksum.result refl within fourth fifth bytes (checksum.ensures.complements.completes _ sums)

pub returns-clause-stored : goal.returns-clause-stored
returns-clause-stored c =
    let zeroed = slice_set (slice_set c.args.packet.now 4 0) 5 0 in
    grind (arith, common_steps, c.ones_complement-checksum.ensures.complements.network_order zeroed (grind (arith, c.new.ensures.zero, c.add_slice.ensures.adds.sum)))
