-- `get` meets its contract: a walk of its MIR, by hand.
use denote.Memory.{part_of}
use Rattle.etherparse_c.proofs.DefragSteps.{◌≡◌, ℕ, List, [], ◌∷◌, refl, sym, ap, ◌∙◌, proved, after, full_share, ent, sep, id⊢, Fml, GName, ftrue, fsep, flft, named, Val, vptr, tables, Ura, Logic, sem, ‵, raw, ◌⊛◌, some, later, at_ret, ◌$◌, ◌∵◌, !, qed, done, move, keep, use1, split, split3, join, pick, await, fsplit, fsplit3, fjoin, fpack, rewrite, suffices, frame, group, whole, sub, look_in, enter, of_opd, addr, load, stop, fld, first, blocks, exec, returns, alloc_all, pass_all, free_all, look_at, get, through, sets, sets_last, env, no, shows, cell_at, mem, part_at, Ptr, block_ptr, lies_at, in_a_block, MutRef, MutBor, mut_vals, mut_Tells, plain, mut_ref_to, nothing, opens, peeks, shape, to, Struct, follows, Part, lends_Part, says, Stays, stay_dropped, Goes-spent_ref, walk_of, ends_at}
use Rattle.etherparse_c.specs.DefragMemory.{buf_row as T}
use Rattle.etherparse_c.specs.LendsBuf.{with_fragments as with_value}
use Rattle.etherparse_c.specs.contracts.defrag_buf.DefragBuf.get as f
use Rattle.etherparse_c.specs.contracts.defrag_buf.DefragBuf.{the_row as R, the_type}
use Rattle.etherparse_c.specs.declared.defrag_buf.DefragBuf.{DefragBuf as Held}
use Rattle.etherparse_c.proofs.defrag_buf.DefragBuf.TheLaws.{lowers}
use Rattle.etherparse_c.proofs.defrag_buf.DefragBuf.get.Statement.{statement}
use Rattle.etherparse_c.proofs.defrag_buf.DefragBuf.get.Code as code

abbrev stayed : Stays f.ended.signature.params f.ended.kept
stayed = (stay_dropped (mut_ref_to (0 ∷ []) tt (plain (λ _. R))) no, tt)

-- what the fields own

abbrev OfFields : Held → List Val → Fml
OfFields h us = (Struct (shape the_type)).own_val (to the_type h) us

-- all but the value

abbrev Rest : Held → List Val → ℕ → ℕ → Fml
Rest h us b o = fsep (OfFields h us) (cell_at full_share R.mir us b o)

back : {M : Type 1} {𝓤 : Ura M} (𝓛 : Logic 𝓤) (h : Held) (us : List Val) (b o b' o' : ℕ) → h.state ≡ block_ptr b' o' → (w : T.Denot)
    → ent 𝓤 (sep 𝓤 (sem 𝓛 ((mem T).own_at w b' o')) (sem 𝓛 (Rest h us b o))) (sem 𝓛 ((mem R).own_at (with_value h w) b o))
unfolding part_of
back 𝓛 h us b o b' o' e w =
    qed 𝓛 (‵ (part_at T full_share w b' o') ∷ ‵ (Rest h us b o) ∷ []) ∵
    rewrite ! 0 (λ (p : Ptr). ‵ (lies_at T full_share p w)) (sym e) refl $ move ! (1 ∷ []) $ fsplit ! $
    move ! (0 ∷ 2 ∷ []) $ fjoin ! $ move ! (1 ∷ 0 ∷ []) $ fjoin ! $
    fpack ! (List Val) (λ vs. fsep (cell_at full_share R.mir vs b o) (R.own_val (with_value h w) vs)) us $ done !

pub get_spec : {M : Type 1} → statement M
get_spec 𝓤 𝓛 𝓜 𝓡 wired =
    let c = f.clauses 𝓛 𝓜.mem 𝓡.returns in let W = walk_of 𝓛 f.ended stayed c in let 𝓣 = tables 𝓤 𝓛.H 𝓜 𝓡 𝓡.env in
    proved 𝓛 f.ended stayed c 𝓜 𝓡 (Goes-spent_ref 𝓛 1 (0 ∷ []) tt (plain (λ _. R)), tt)
    f.Key.name code.function (code.unfolded 𝓤 𝓛.H 𝓜 𝓡 wired)
    (λ κs. (mut_vals, tt)) (λ κs. (mut_Tells (named 0) κs.0 R, tt)) (λ κs qs bounds a _ are.
    let κ = κs.0 in let q = qs.0 in let b = a.0.ref_ptr.0 in let o = a.0.ref_ptr.1 in let γ = a.0.ghost_name in let h = a.0.now in let vs = mut_vals a.0 in
    let y : W.Ghost = ((κs, qs, bounds, a, (vs, tt)), tt) in
    qed 𝓛 (((‵ (flft κ q) ⊛ ‵ ftrue) ⊛ ‵ ((MutRef (named 0) κ R).own_val a.0 vs) ⊛ ‵ ftrue) ∷ ‵ ftrue ∷ []) ∵
    split ! $ split ! $ move ! (2 ∷ []) $ split ! $ keep ! (0 ∷ 2 ∷ []) $
    enter ! _ _ _ _ _ $ alloc_all ! (λ l. pass_all ! refl ((tt, tt), tt) $
    fsplit3 ! $ move ! (1 ∷ 2 ∷ 3 ∷ []) $ opens ! tt R b o (λ us.
    move ! (1 ∷ []) $ peeks ! R _ (shows 𝓛 R) h us (λ is. fsplit ! $ move ! (1 ∷ []) $
    in_a_block ! h.state (λ p. lies_at T full_share p h.fragments) (id⊢ 𝓤 _) (λ b' o' e.
    let word = lowers.val_is h us is ∙ ap (λ (p : Ptr). lowers.lowered (record h { state = p }) ∷ []) e in
    let Cell = λ (ws : List Val). ‵ (cell_at full_share R.mir ws b o) in
    rewrite ! 2 Cell word refl $
    -- [the value; what the fields own; the struct's cell; the open borrow, in three entries]
    first ! $ blocks ! $
    sets ! (of_opd ! (load ! (through ! refl (fld ! refl (stop !))) (look_in ! 2 (sub ! 0 refl (whole !))))) refl (tt, tt) $
    sets ! (of_opd ! (get ! refl)) refl (tt, tt) $
    sets_last ! (addr ! (through ! refl (stop !))) refl (tt, tt) $
    exec ! 𝓣.C 𝓣.Λ (env code.Mir.locals l) (after 1 (code.function).body) (at_ret _ (W.post y)) $
    sets ! (of_opd ! (get ! refl)) refl (tt, tt) $
    rewrite ! 2 Cell (sym word) refl $
    move ! (1 ∷ 2 ∷ []) $ fjoin ! $ move ! (2 ∷ 3 ∷ 4 ∷ 1 ∷ 0 ∷ []) $ group ! 5 $
    use1 𝓛 (later (some (λ (γ' : GName). raw (Part 𝓛 R T (with_value h) (named 0) κ q b o b' o' γ (sem 𝓛 (Rest h us b o)) (back 𝓛 h us b o b' o' e) h.fragments γ'))))
    (lends_Part 𝓛 R T (with_value h) (named 0) κ q b o b' o' γ (sem 𝓛 (Rest h us b o)) (back 𝓛 h us b o b' o' e) (R.coded.code h) (R.coded.code h) h.fragments) $ await ! tt $ pick ! (λ γ'.
    returns ! (look_at ! 0 refl) $ free_all ! refl $ keep ! (0 ∷ []) $
    let r : MutBor T.Denot = record { ref_ptr = (b', o'); ghost_name = γ'; now = h.fragments } in
    use1 𝓛 (‵ ((MutRef (named 0) κ T).own_val r (vptr b' o' ∷ [])) ⊛ ‵ (flft κ q) ⊛ ‵ (follows R T γ γ' (with_value h))) (id⊢ 𝓤 _) $ split3 ! $
    suffices ! _ (ends_at 𝓛 f.ended stayed c y (vptr b' o') r (tt, tt) (tt, tt)) $
    nothing ! $ nothing ! $ fjoin ! $ join ! $ nothing ! $ move ! (2 ∷ 0 ∷ []) $ join ! $ join ! $ frame ! $ says ! refl $ done !))))))
