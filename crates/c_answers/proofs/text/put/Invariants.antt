use Rattle.std.proofs.Common.{◌≡◌, ◌++◌, drop, length, min, take}
use Rattle.std.specs.List.{flat_map}
use Rattle.c_answers.proofs.text.put.Given as goal

-- the pieces so far stand at the front of the buffer, as far as there is room
abbrev pub invariant-loop-piece : goal.invariant-loop-piece
invariant-loop-piece l =
    let so_far = flat_map (λ piece. piece.now) (take l.piece-index l.pieces) in
    let end = min l.len l.room in
    (l.len ≡ length so_far) × (l.text ≡ take end so_far ++ drop end l.fn.text)
