use Rattle.std.proofs.Common.{ℕ, ◌≡◌, ◌==◌, ◌+◌, ◌-◌, ◌<◌, ◌≤◌, ◌++◌, ◌∷◌, ◌∙◌, List, [], Bor, false, true, ap, append-nil}
use Rattle.std.proofs.Common.{append_assoc, arith, drop, drop-cons, drop_of_length-le, get_or, inl, inr, length}
use Rattle.std.proofs.Common.{length-append, length-take-le, min, refl, slice_set, sym, take, take-add}
use Rattle.std.proofs.lemmas.Bool.{cases_lt}
use Rattle.std.proofs.lemmas.List.{drop-append-le, drop_at, drop_min, set-append_right, take-append-le, take_all, take_at}
use Rattle.std.proofs.lemmas.List.{take_min, take_more}
use Rattle.std.proofs.lemmas.List.Concat.{flat_map-append}
use Rattle.std.proofs.lemmas.List.Folds.{length-flat_map-take}
use Rattle.std.specs.List.{flat_map}
use borrow.Rule.Slice.PartMut.{Post-is, put_mid}
use Rattle.c_answers.specs.Text.{with_text}
use Rattle.c_answers.proofs.text.put.Goals as goal

-- the front of a text and a piece: all of the text is there, or nothing of the piece
front_of : (text piece : List ℕ) (start n : ℕ) → start ≤ length text → (start < length text → n ≡ 0)
    → take (start + n) (text ++ piece) ≡ take start text ++ take n piece
front_of text piece start n le stop =
    rw (take-add start n (text ++ piece), take-append-le start text piece le, drop-append-le start text piece le) (
    elim (cases_lt start (length text)) [
      | inl part ↦ rw (stop part) refl
      | inr whole ↦ rw (drop_of_length-le text whole) refl
    ]
    )

-- a piece after what is written of a text, as far as there is room
put_after : (text piece before now new : List ℕ) (room len start end : ℕ) → len ≡ length text → start ≡ min len room → end ≡ min (len + length piece) room → room ≤ length before
    → new ≡ take (end - start) piece → now ≡ take start text ++ drop start before → put_mid start (end - start) now new ≡ take end (text ++ piece) ++ drop end before
put_after text piece before now new room len start end l s e fits is w =
    let long = length-take-le start text (omega arith) in
    let written = take_at (take start text) (drop start before) start long in
    let kept = drop_at (take start text) (drop start before) start long in
    let whole : start + (end - start) ≡ end = omega arith in
    let front = rw whole at (front_of text piece start (end - start) (omega arith) (λ part. omega arith)) in
    rw (w, is, written, kept, Post-is start end before (omega arith), front, append_assoc) refl

-- a byte 0 after the text, or as the last byte of the buffer
end_of : (text before : List ℕ) (end : ℕ) → (length before == 0) ≡ false → end ≡ min (length text) (length before - 1)
    → slice_set (take end text ++ drop end before) end 0 ≡ with_text text before
end_of text [] end some e = let wrong : true ≡ false = some in cc
end_of text (x ∷ xs) end some e =
    let set = set-append_right (take end text) (drop end (x ∷ xs)) end end 0 (length-take-le end text (omega arith)) (omega arith) in
    let here : end - end ≡ 0 = omega arith in
    let by_text : end ≡ min (length xs) (length text) = omega arith in
    let by_room : end ≡ min (length text) (length xs) = omega arith in
    let front : take end text ≡ take (length xs) text = rw by_text (take_min (length xs) text) in
    let back : drop end xs ≡ drop (length text) xs = rw by_room (drop_min (length text) xs) in
    rw (set, here, drop-cons (x ∷ xs) end 0 (omega arith), front, back) refl

-- the pieces up to the next one
one_more : (pieces : List (Bor (List ℕ))) (i : ℕ) (d : Bor (List ℕ)) → i < length pieces
    → flat_map (λ (piece : Bor (List ℕ)). piece.now) (take (i + 1) pieces) ≡ flat_map (λ (piece : Bor (List ℕ)). piece.now) (take i pieces) ++ (get_or pieces i d).now
one_more pieces i d below = rw (take_more pieces i d below, flat_map-append, append-nil) refl

pub overflow_add-len : goal.overflow_add-len
overflow_add-len c =
    omega (arith, c.requires.short, c.loop-piece.invariant.0, length-flat_map-take (λ (piece : Bor (List ℕ)). piece.now) c.args.pieces.now c.loop-piece.piece-index (record { ref_ptr = (0, 0); now = [] }) c.loop-piece-test.true)

pub loop-piece-preserved : goal.loop-piece-preserved
loop-piece-preserved c =
    let l = c.loop-piece in
    let next = one_more c.args.pieces.now l.piece-index (record { ref_ptr = (0, 0); now = [] }) c.loop-piece-test.true in
    let start : c.min-start.result ≡ min l.len c.saturating_sub-room.result = omega (arith, c.min-start.ensures) in
    let end : c.min-end.result ≡ min (l.len + length (get_or c.args.pieces.now l.piece-index (record { ref_ptr = (0, 0); now = [] })).now) c.saturating_sub-room.result = omega (arith, c.min-end.ensures) in
    rw (next, ← end) (
      omega (arith, l.invariant.0, length-append {A = ℕ}),
      put_after _ _ c.args.text.now l.text _ c.saturating_sub-room.result l.len c.min-start.result c.min-end.result l.invariant.0 start end (omega (arith, c.saturating_sub-room.ensures))
          (c.copy.ensures.copied ∙ ap (λ b. take (c.min-end.result - c.min-start.result) b) c.as_bytes.ensures.value) (rw (← start) at l.invariant.1),
    )

pub returns-then-not-is_empty : goal.returns-then-not-is_empty
returns-then-not-is_empty c =
    let l = c.loop-piece in
    let all = take_all l.piece-index c.args.pieces.now c.loop-piece-test.false in
    let len = rw all at l.invariant.0 in
    let end : c.min.result ≡ min l.len c.saturating_sub-room.result = omega (arith, c.min.ensures) in
    record {
      gives = record {
        len = len;
        written = rw (l.invariant.1, all, ← end) (end_of _ c.args.text.now _
            (rw l.auto.text at (sym c.is_empty.ensures ∙ c.if-not-is_empty.true)) (omega (arith, end, len, c.saturating_sub-room.ensures)));
      };
    }
