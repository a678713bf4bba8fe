-- The borrow checker follows no loan of a part of an array, so this is a walk along the two
-- statements of the body. Before it: the room for options in memory is its 40 bytes in a row, and
-- back; its front can be lent as a slice.
use mathlib.Core.Path.{◌≡◌, refl, sym, ◌∙◌}
use Prim.Native.Nat.{ℕ, zero, ◌+◌, ◌≤◌}
use native.Mathlib.Omega.{arith}
use mathlib.Core.List.{List, [], ◌∷◌, ◌++◌}
use lib.ListN.{length, take, drop as after, take-append-drop, length-append, length-drop}
use borrow.Table.Elements.{at, cut_app, join_app, length-take-le}
use seplogic.Ra.Ura.{Ura}
use base.Fraction.{full_share}
use base.Logic.{SProp, ent, sep, guard}
use base.Fml.{Fml, Lft, GName, Share, ftrue, fsep, feq, flft}
use mir.Syntax.{Ty, ty_array, ty_int, ty_struct, named, w8, w64}
use mir.Val.{Val, vint}
use prog.Memory.{align, up}
use types.Logic.{Logic, sem}
use types.SemTy.{cells}
use types.Mut.{open_ref}
use types.Kit.{Item, mean, ‵, raw, ◌⊛◌, !, ◌$◌, ◌∵◌, given, some, later, qed, by, done, move, drop, use1, use2, split, join, group, learn, check, rewrite, updating, now, show, fsplit, fsplit3, fjoin, feq_i, feq_l, pick, await, suffices, keep, split3, frame}
use denote.Array.{Array, Array-Lawful}
use denote.ArrayMemory.{Array-apart, Array-whole}
use denote.Builtin.{u8, RefMutOf, usize}
use denote.Follow.{follows}
use denote.FollowSlice.{lends_Elements}
use denote.Index.{row, whole_in, whole_out}
use denote.Memory.{mem, part_at}
use denote.Plain.{uint_Lawful, uint_vals, uint_Tells}
use denote.Ref.{MutBor, MutRef, mut_vals, mut_Tells}
use denote.Slice.{MutSlice, Room, slice_val}
use denote.Steps.{nothing}
use denote.Struct.Declared.{shape}
use denote.Struct.Members.{Member, raw_tys, lawful_Lones}
use denote.Struct.Parts.{shape_of, Struct-left, left_Struct}
use denote.Struct.Recorded.{Recorded-part}
use denote.Struct.Struct.{Struct}
use Rattle.etherparse_fields.specs.Private.Buffer.{with_front}
use Rattle.etherparse_fields.specs.contracts.net.ipv4_options.buffer.Buffer.{the_row, the_type}
use types.Part.{agg}
use types.Run.{enter, addr, fld, stop, no_more, and_then, returns}
use types.ByLocal.{alloc_all, pass_all, free_all, look_at, get, through, sets}
use denote.Exit.{yes, no}
use denote.Signature.{plain}
use denote.Triple.Walked.{Stays, walk_of, says, stay_dropped, Goes-dropped, Goes-spent_ref, ends_at}
use Rattle.std.proofs.raw_atomic.Walks.{proved}
use Rattle.etherparse_fields.specs.contracts.net.ipv4_options.buffer.Buffer.front_mut as f
use Rattle.etherparse_fields.proofs.net.ipv4_options.buffer.Buffer.front_mut.Statement.{statement}
use Rattle.etherparse_fields.proofs.net.ipv4_options.buffer.Buffer.front_mut.Code as code

-- the one field, as the machine has it
abbrev array : Ty
array = ty_array (ty_int w8) 40

abbrev fields : List Member
fields = record { row = Array u8 40; ty = array } ∷ []

-- where the bytes begin, in a struct at the offset o
abbrev first : ℕ → ℕ
first o = o + up (align array) zero

module _ {M : Type 1} {𝓤 : Ura M} (𝓛 : Logic 𝓤) (b o : ℕ) where
  open 𝓛 use {A, H}

  abbrev Bytes : List ℕ → Fml
  Bytes xs = cells (mem u8) xs b (first o)

  -- what is left of the struct while its bytes are out
  abbrev Husk : SProp 𝓤
  Husk = H.left full_share (ty_struct [] (raw_tys fields)) (raw_tys fields) b o

  -- the struct as the tuple of its one field
  abbrev Tuple : the_row.Denot → Fml
  Tuple v = part_at (Struct (shape_of the_type.name fields)) full_share (v.bytes, tt) b o

  as_tuple : (v : the_row.Denot) → part_at the_row full_share v b o ≡ Tuple v
  as_tuple v =
      let T = the_type in Recorded-part (Struct (shape T)) T.D T.to T.to_one full_share v b o

  bytes_out : (v : the_row.Denot) → ent 𝓤 (sem 𝓛 ((mem the_row).own_at v b o))
      (guard 𝓤 (length v.bytes ≡ 40) (sep 𝓤 (sem 𝓛 (Bytes v.bytes)) Husk))
  bytes_out v =
      let lone = lawful_Lones 𝓛 fields (Array-Lawful 𝓛 u8 (uint_Lawful 𝓛 w8) 40, tt) in
      let ys = v.bytes in
      qed 𝓛 (‵ (part_at the_row full_share v b o) ∷ []) ∵
      rewrite ! 0 (λ (owned : Fml). ‵ owned) (as_tuple v) refl $
      use1 𝓛 (‵ (fsep (part_at (Array u8 40) full_share ys b (first o)) ftrue) ⊛ raw Husk)
      (Struct-left 𝓛 full_share the_type.name fields lone (ys, tt) b o) $
      split ! $ fsplit ! $ move ! (1 ∷ []) $ drop ! $
      use1 𝓛 (‵ (fsep (feq ℕ (length ys) 40) (row u8 full_share ys b (first o))))
      (Array-apart 𝓛 u8 full_share tt 40 ys b (first o)) $ fsplit ! $ feq_l ! (λ long.
      use1 𝓛 (‵ (Bytes ys)) (whole_in 𝓛 u8 ys b (first o)) $ check ! long $ done !)

  bytes_in : (v : the_row.Denot) → length v.bytes ≡ 40
      → ent 𝓤 (sep 𝓤 (sem 𝓛 (Bytes v.bytes)) Husk) (sem 𝓛 ((mem the_row).own_at v b o))
  bytes_in v long =
      let ys = v.bytes in
      qed 𝓛 (‵ (Bytes ys) ∷ raw Husk ∷ []) ∵
      use1 𝓛 (‵ (row u8 full_share ys b (first o))) (whole_out 𝓛 u8 ys b (first o)) $
      feq_i ! ℕ (length ys) 40 long $ fjoin ! $
      use1 𝓛 (‵ (part_at (Array u8 40) full_share ys b (first o)))
      (Array-whole 𝓛 u8 full_share 40 ys b (first o)) $
      nothing ! $ move ! (1 ∷ 0 ∷ []) $ fjoin ! $
      use2 𝓛 (‵ (Tuple v)) (left_Struct 𝓛 full_share the_type.name fields (ys, tt) b o) $
      rewrite ! 0 (λ (owned : Fml). ‵ owned) (sym (as_tuple v)) refl $ done !

  module _ (κ : Lft) (q : Share) (γ : GName) (v : the_row.Denot) (len : ℕ) where
    abbrev front : List ℕ
    front = take len v.bytes

    abbrev back : List ℕ
    back = after len v.bytes

    -- the bytes after a front of n
    abbrev After : ℕ → Fml
    After n = cells (mem u8) back b (at (first o) (mem u8).size n)

    abbrev Rest : SProp 𝓤
    Rest = sep 𝓤 (sem 𝓛 (After (length front))) Husk

    whole : len ≤ 40 → length v.bytes ≡ 40 → (ws : List ℕ) → length ws ≡ length front
        → ent 𝓤 (sep 𝓤 (sem 𝓛 (Bytes ws)) Rest)
        (sem 𝓛 ((mem the_row).own_at (with_front v ws) b o))
    whole within long ws same =
        let count : length front ≡ len = length-take-le len v.bytes (omega arith) in
        qed 𝓛 (‵ (Bytes ws) ∷ ‵ (After (length front)) ∷ raw Husk ∷ []) ∵
        rewrite ! 1 (λ (n : ℕ). ‵ (After n)) (sym same) refl $
        use2 𝓛 (‵ (Bytes (ws ++ back))) (join_app 𝓛 (mem u8) ws back b (first o)) $
        rewrite ! 0 (λ (n : ℕ). ‵ (Bytes (ws ++ after n v.bytes))) (sym (same ∙ count)) refl $
        by ! (bytes_in (with_front v ws) (simp (length-append, length-drop) (omega arith)))

    -- the room as it is passed, and its front as it is returned under the name δ
    abbrev room : MutBor the_row.Denot
    room = record { ref_ptr = (b, o); ghost_name = γ; now = v }

    abbrev slice : GName → MutBor (List ℕ)
    slice δ = record { ref_ptr = (b, first o); ghost_name = δ; now = front }

    -- the slice, of n bytes, the token, and what the room ends as
    abbrev lent : ℕ → GName → Item 𝓤
    lent n δ =
        ‵ ((MutSlice (named 0) κ u8).own_val (slice δ) (slice_val (b, first o) n ∷ [])) ⊛ ‵ (flft κ q)
        ⊛ ‵ (follows the_row (Array u8 0) γ δ (with_front v))

    lends : len ≤ 40 → (vs : List Val)
        → ent 𝓤 (sep 𝓤 (sem 𝓛 ((MutRef (named 0) κ the_row).own_val room vs)) (A.lft κ q))
        (mean 𝓛 (later (some (lent len))))
    lends within vs =
        qed 𝓛 (‵ ((MutRef (named 0) κ the_row).own_val room vs) ∷ ‵ (flft κ q) ∷ []) ∵
        updating ! $ fsplit3 ! $ drop ! $ open_ref ! tt (mem the_row) {b = b} {o = o} $
        use1 𝓛 (given (length v.bytes ≡ 40) (‵ (Bytes v.bytes) ⊛ raw Husk)) (bytes_out v) $
        learn ! (λ long. split ! $
        let count : length front ≡ len = length-take-le len v.bytes (omega arith) in
        let fits : Room u8 (length front) = (omega arith, omega arith) in
        let code = the_row.coded.code v in
        rewrite ! 0 (λ (xs : List ℕ). ‵ (Bytes xs)) (sym (take-append-drop len v.bytes)) refl $
        use1 𝓛 (‵ (Bytes front) ⊛ ‵ (After (length front)))
        (cut_app 𝓛 (mem u8) front back b (first o)) $
        split ! $ move ! (1 ∷ 2 ∷ []) $ join ! $ move ! (2 ∷ 3 ∷ 4 ∷ 1 ∷ 0 ∷ []) $ group ! 5 $
        use1 𝓛 (later (some (lent (length front))))
        (lends_Elements 𝓛 the_row u8 (with_front v) (named 0) κ q b o b (first o) γ front fits Rest
        (whole within long) code code) $
        await ! tt $ pick ! (λ δ. rewrite ! 0 (λ (n : ℕ). lent n δ) count refl $ now ! $
        show ! (λ (δ' : GName). mean 𝓛 (lent len δ')) δ $ done !))

abbrev stayed : Stays f.ended.signature.params f.ended.kept
stayed =
    let self = stay_dropped (RefMutOf (0 ∷ []) tt (plain (λ _. the_row)) (λ _. tt)) no in
    (self, (stay_dropped (plain (λ _. usize)) yes, tt))

pub front_mut_spec : {M : Type 1} → statement M
front_mut_spec 𝓤 𝓛 𝓜 𝓡 wired =
    let c = f.clauses 𝓛 𝓜.mem 𝓡.returns in
    let W = walk_of 𝓛 f.ended stayed c in
    proved 𝓛 f.ended stayed c 𝓜 𝓡 (
      Goes-spent_ref 𝓛 1 (0 ∷ []) tt (plain (λ _. the_row)),
      (Goes-dropped 𝓛 1 (plain (λ _. usize)) yes (λ κs x w. refl), tt),
    )
    f.Key.name code.function (code.unfolded 𝓤 𝓛.H 𝓜 𝓡 wired)
    (λ κs. (mut_vals, (uint_vals w64, tt)))
    (λ κs. (mut_Tells (named 0) κs.0 the_row, (uint_Tells w64, tt)))
    (λ κs qs bounds a _ are.
    let κ = κs.0 in
    let q = qs.0 in
    let self = a.0 in
    let b = self.ref_ptr.0 in
    let o = self.ref_ptr.1 in
    let v = self.now in
    let len = a.1.0 in
    let fits = are.1.0.1 in
    let y : W.Ghost = ((κs, qs, bounds, a, (mut_vals self, (vint w64 len ∷ [], tt))), tt) in
    let Self = (MutRef (named 0) κ the_row).own_val self (mut_vals self) in
    let tokens = ‵ (flft κ q) ⊛ ‵ ftrue in
    let owned = ‵ Self ⊛ ‵ (usize.own_val len (vint w64 len ∷ [])) ⊛ ‵ ftrue in
    qed 𝓛 ((tokens ⊛ owned) ∷ given (len ≤ 40) (‵ ftrue) ∷ []) ∵
    move ! (1 ∷ []) $ learn ! (λ within. drop ! $
    split ! $ split ! $ move ! (2 ∷ []) $ split3 ! $ keep ! (0 ∷ 3 ∷ []) $
    enter ! _ _ _ _ _ $ alloc_all ! (λ l.
    pass_all ! refl ((tt, tt), ((tt, record { fits = fits }), tt)) $
    -- [self; the token; the locals]
    sets ! (addr ! (through ! refl (fld ! refl (stop !)))) refl (tt, tt) $
    sets ! (agg ! (and_then ! (get ! refl) (and_then ! (get ! refl) (no_more !)))) refl
    (tt, (tt, (record { fits = fits }, tt))) $
    let lent_at = lent 𝓛 b o κ q self.ghost_name v len len in
    use2 𝓛 (later (some lent_at)) (lends 𝓛 b o κ q self.ghost_name v len within (mut_vals self)) $
    await ! tt $ pick ! (λ δ. split3 ! $
    -- [the slice; the token; what self ends as; the locals]
    returns ! (look_at ! 0 refl) $ free_all ! refl $ keep ! (0 ∷ 1 ∷ 2 ∷ []) $
    let front = slice 𝓛 b o κ q self.ghost_name v len δ in
    let returned = slice_val (b, first o) len in
    suffices ! _ (ends_at 𝓛 f.ended stayed c y returned front (tt, (tt, tt)) (tt, (tt, tt))) $
    nothing ! $ nothing ! $ fjoin ! $ nothing ! $ fjoin ! $ join ! $ move ! (1 ∷ []) $
    nothing ! $ move ! (1 ∷ 0 ∷ []) $ join ! $ join ! $ frame ! $ says ! refl $ done !))))
