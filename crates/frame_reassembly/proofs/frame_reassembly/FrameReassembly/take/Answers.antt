use Rattle.std.proofs.Common.{List, None, Some, [], ap, append-nil, arith, drop, drop_at, inl, inr, length, length-append, length-take-le, option_map, refl, subst, sym, take, ℕ, ◌+◌, ◌++◌, ◌-◌, ◌∙◌, ◌≡◌, ◌≤◌}
use Rattle.std.specs.Prelude.{IfNone}
use Rattle.std.proofs.Math.Seq.{drop-append-add, drop-drop, take-append-add}
use Rattle.std.proofs.lemmas.List.{drop_all, length-drop, take-append-drop, take-append-le, take_all}
use borrow.Rule.Slice.PartMut.{mid_len, mid_of, post_of, put_mid, same_len_mid}
use Rattle.frame_reassembly.proofs.frame_reassembly.FrameReassembly.take.Goals as goal

-- a frame whose end is written after its front is copied
take-joined : {A : Type 0} (f k n : ℕ) (out written front : List A) → length front ≡ f → f ≤ length out → n ≤ length written → take (f + n) (front ++ drop f (put_mid f k out written)) ≡ front ++ take n written
take-joined f k n out written front len fits within = rw (drop_at (take f out) (written ++ post_of f k out) f (length-take-le f out fits), ← len, take-append-add, take-append-le)

-- and what stands after that
drop-joined : {A : Type 0} (f k n : ℕ) (out written front : List A) → length front ≡ f → f + k ≡ length out → length written ≡ k → drop n written ≡ drop n (mid_of f k out) → drop (f + n) (front ++ drop f (put_mid f k out written)) ≡ drop (f + n) out
drop-joined f k n out written front len all same after =
    let post : post_of f k out ≡ [] = drop_all k (drop f out) (omega (arith, length-drop f out)) in
    let mid : mid_of f k out ≡ drop f out = take_all k (drop f out) (omega (arith, length-drop f out)) in
    rw (drop_at (take f out) (written ++ post_of f k out) f (length-take-le f out (omega arith)), post, append-nil, ← len, drop-append-add, len, after, mid, drop-drop)

pub returns-clause-takes : goal.returns-clause-takes
returns-clause-takes c =
    let found = c.in_ok-carried.ensures.found in
    let packet = c.in_ok-carried.carried.packet.now in
    let len = length c.args.frame.now - length packet in
    let front = c.copy_from_slice.new.self in
    let whole : length front ≡ len = ap length c.copy_from_slice.ensures.after ∙ length-take-le len c.args.frame.now (omega arith) in
    let completed = take c.in_ok-len.len c.take_packet.new.out in
    let takes = rw (found.2, found.3, c.self.view_is) at c.in_ok-len.ensures.takes in
    let joined = take-joined len (length c.args.out.now - len) c.in_ok-len.len c.args.out.now c.take_packet.new.out front whole (omega (arith, c.requires.room)) c.in_ok-len.ensures.within in
    let carries = rw (← c.copy_from_slice.ensures.after) at found.1 in
    inl (record { front = front; packet = packet; tags = found.0; carries = carries; completed = Some completed; takes = takes; is_whole = ap Some joined })

pub returns-clause-after : goal.returns-clause-after
returns-clause-after c =
    let len = length c.args.frame.now - length c.in_ok-carried.carried.packet.now in
    let front = c.copy_from_slice.new.self in
    let whole : length front ≡ len = ap length c.copy_from_slice.ensures.after ∙ length-take-le len c.args.frame.now (omega arith) in
    drop-joined len (length c.args.out.now - len) c.in_ok-len.len c.args.out.now c.take_packet.new.out front whole (omega (arith, c.requires.room)) (c.in_ok-len.ensures.same_len ∙ mid_len len (length c.args.out.now) c.args.out.now (omega (arith, c.requires.room))) c.in_ok-len.ensures.after

pub returns-in_err-carried-clause-takes : goal.returns-in_err-carried-clause-takes
returns-in_err-carried-clause-takes c =
    inr (record { carries = c.in_err-carried.ensures.none; slots = refl; counts = refl; none = ap (option_map (λ n. take n c.args.out.now)) c.from_residual.ensures })

pub returns-in_err-len-clause-takes : goal.returns-in_err-len-clause-takes
returns-in_err-len-clause-takes c =
    let found = c.in_ok-carried.ensures.found in
    let packet = c.in_ok-carried.carried.packet.now in
    let front = take (length c.args.frame.now - length packet) c.args.frame.now in
    let takes = rw (found.2, found.3, c.self.view_is) at c.in_err-len.ensures.takes in
    inl (record { front = front; packet = packet; tags = found.0; carries = found.1; completed = None; takes = takes; is_whole = ap (option_map (λ n. take n _)) c.from_residual-in_err-len.ensures })

-- a part that is as it was, and with it the whole
put_back : {A : Type 0} (f k : ℕ) (out written : List A) → written ≡ take k (drop f out) → put_mid f k out written ≡ out
put_back f k out written e =
    ap (λ l. take f out ++ (l ++ drop k (drop f out))) e ∙ ap (λ l. take f out ++ l) (take-append-drop k (drop f out)) ∙ take-append-drop f out

pub returns-in_err-len-clause-nothing : goal.returns-in_err-len-clause-nothing
returns-in_err-len-clause-nothing c =
    let len = length c.args.frame.now - length c.in_ok-carried.carried.packet.now in
    let same = put_back len (length c.args.out.now - len) c.args.out.now c.take_packet.new.out c.in_err-len.ensures.nothing in
    subst (λ r. IfNone r (put_mid len (length c.args.out.now - len) c.args.out.now c.take_packet.new.out ≡ c.args.out.now)) (sym c.from_residual-in_err-len.ensures) same

pub returns-in_err-len-clause-same_len : goal.returns-in_err-len-clause-same_len
returns-in_err-len-clause-same_len c =
    let len = length c.args.frame.now - length c.in_ok-carried.carried.packet.now in
    ap length (put_back len (length c.args.out.now - len) c.args.out.now c.take_packet.new.out c.in_err-len.ensures.nothing)

pub take_packet-requires-clause-room : goal.take_packet-requires-clause-room
take_packet-requires-clause-room c =
    let len = length c.args.frame.now - length c.in_ok-carried.carried.packet.now in
    omega (arith, c.requires.room, mid_len len (length c.args.out.now) c.args.out.now (omega (arith, c.requires.room)))

pub invariant_of-self : goal.invariant_of-self
invariant_of-self c =
    let e = c.in_err-len.ensures in
    (omega (arith, e.slots), omega (arith, e.slots), e.headers, e.timeout)

pub invariant_of-self-2 : goal.invariant_of-self-2
invariant_of-self-2 c =
    let e = c.in_ok-len.ensures in
    (omega (arith, e.slots), omega (arith, e.slots), e.headers, e.timeout)

pub slice_bounds-copy_from_slice-end : goal.slice_bounds-copy_from_slice-end
slice_bounds-copy_from_slice-end c =
    let len = length c.args.frame.now - length c.in_ok-carried.carried.packet.now in
    omega (arith, c.requires.room, same_len_mid len (length c.args.out.now - len) c.args.out.now c.take_packet.new.out c.in_ok-len.ensures.same_len)

pub copy_from_slice-requires : goal.copy_from_slice-requires
copy_from_slice-requires c =
    let len = length c.args.frame.now - length c.in_ok-carried.carried.packet.now in
    let same = same_len_mid len (length c.args.out.now - len) c.args.out.now c.take_packet.new.out c.in_ok-len.ensures.same_len in
    length-take-le len _ (omega (arith, c.requires.room, same)) ∙ sym (length-take-le len c.args.frame.now (omega arith))

-- the length of a frame whose end is written before its front
joined-len : {A : Type 0} (f k : ℕ) (out written front : List A) → length front ≡ f → f ≤ length out → length written ≡ length (mid_of f k out) → length (front ++ drop f (put_mid f k out written)) ≡ length out
joined-len f k out written front len fits same =
    omega (arith, len, fits, length-append front (drop f (put_mid f k out written)), length-drop f (put_mid f k out written), same_len_mid f k out written same)

pub returns-clause-same_len : goal.returns-clause-same_len
returns-clause-same_len c =
    let len = length c.args.frame.now - length c.in_ok-carried.carried.packet.now in
    let whole = ap length c.copy_from_slice.ensures.after ∙ length-take-le len c.args.frame.now (omega arith) in
    joined-len len (length c.args.out.now - len) c.args.out.now c.take_packet.new.out c.copy_from_slice.new.self whole (omega (arith, c.requires.room)) c.in_ok-len.ensures.same_len

pub returns-clause-within : goal.returns-clause-within
returns-clause-within c =
    let out = c.args.out.now in
    let len = length c.args.frame.now - length c.in_ok-carried.carried.packet.now in
    let whole = ap length c.copy_from_slice.ensures.after ∙ length-take-le len c.args.frame.now (omega arith) in
    let e = c.in_ok-len.ensures in
    let same = joined-len len (length out - len) out c.take_packet.new.out c.copy_from_slice.new.self whole (omega (arith, c.requires.room)) e.same_len in
    omega (arith, c.requires.room, same, e.within, e.same_len, mid_len len (length out) out (omega (arith, c.requires.room)))
