use Rattle.std.proofs.Common.{◌≡◌, map, take}
use Rattle.etherparse_base.specs.WordSums.{folded_sum, ones_complement_sum}
use Rattle.etherparse_base.proofs.checksum.u32_16bit_word.add_slices.Given as goal

-- the pieces so far are summed
abbrev pub invariant-loop-piece : goal.invariant-loop-piece
invariant-loop-piece l = folded_sum l.sum ≡ ones_complement_sum (map (λ piece. piece.now) (take l.piece-index l.pieces))
