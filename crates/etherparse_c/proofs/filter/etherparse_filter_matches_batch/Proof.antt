-- A filter is lent for the call of `choose_each`, and comes back.
use Rattle.etherparse_c.proofs.FilterSteps.{ℕ, List, [], ◌∷◌, length, refl, w32, w64, proved, full_share, id⊢, Lft, Incl-refl, ftrue, flft, flent, named, Val, vint, vptr, Bool, fact, tables, WpFn, ‵, raw, ◌⊛◌, some, later, prop, ◌$◌, ◌∵◌, !, qed, done, move, drop, use1, use2, split, join, fsplit, feq_l, pick, await, regoal, suffices, frame, group, enter, of_opd, addr, stop, no_more, and_then, returns, alloc_all, pass_all, free_all, look_at, get, through, sets, lands_as, lft_new, lft_end, lent_back, u32, usize, bool, SliceRefOf, yes, shows, lends_shr, part_at, uint_vals, uint_Tells, Ptr, RawPtr, block_ptr, ptr_val, lies_at, in_a_block, rawptr_vals, rawptr_Tells, ShrRef, plain, ShrSlice, slice_val, shr_slice_vals, shr_slice_Tells, nothing, heard, peeks, calls_at, lasts, triple_of, framed, Stays, walk_of, says, stay_dropped, Goes-dropped, ends_at}
use contract.BorrowLft.{⊑_static}
use denote.Laws.{Is}
use denote.Plain.{uint_Lawful}
use denote.Signature.{named_lft}
use denote.Slice.{MutSlice, mut_slice_vals, mut_slice_Tells}
use denote.Triple.Walked.{gave_slice, Goes-gave_slice}
use types.Part.{agg, sub, whole}
use types.Run.{from, fld, hop}
use types.ByLocal.{look_in_at, get_in}
use Rattle.packet_filter.specs.contracts.filter.Filter.{the_row as R}
use Rattle.packet_filter.proofs.filter.Filter.TheLaws.{the_row_laws}
use Rattle.c_answers.specs.contracts.frame.Frame.{the_row as Frame}
use Rattle.packet_filter.specs.Program.{expression_of}
use Rattle.c_answers.specs.FilterMatching.{AnswersEach}
use Rattle.etherparse_c.specs.contracts.filter.etherparse_filter_matches_batch as f
use Rattle.etherparse_c.proofs.filter.etherparse_filter_matches_batch.Statement.{statement}
use Rattle.etherparse_c.proofs.filter.etherparse_filter_matches_batch.Code as code
use Rattle.c_answers.specs.contracts.filter_frames.choose_each as g
use Rattle.c_answers.proofs.filter_frames.choose_each.Met.{met}

abbrev stayed : Stays f.ended.signature.params f.ended.kept
stayed = (stay_dropped _ yes, (stay_dropped _ yes, (stay_dropped _ yes, (gave_slice (2 ∷ []) tt (plain (λ _. bool)), tt))))

pub etherparse_filter_matches_batch_spec : {M : Type 1} → statement M
etherparse_filter_matches_batch_spec 𝓤 𝓛 𝓜 𝓡 wired =
    let c = f.clauses 𝓛 𝓜.mem 𝓡.returns in let W = walk_of 𝓛 f.ended stayed c in let 𝓣 = tables 𝓤 𝓛.H 𝓜 𝓡 𝓡.env in
    proved 𝓛 f.ended stayed c 𝓜 𝓡
    (Goes-dropped 𝓛 3 (plain (λ _. RawPtr)) yes (λ κs x w. refl), (Goes-dropped 𝓛 3 (plain (λ _. u32)) yes (λ κs x w. refl), (Goes-dropped 𝓛 3 (SliceRefOf (0 ∷ []) tt (plain (λ κs. Frame (named_lft 3 1 tt κs))) (λ _. tt)) yes (λ κs x w. refl), (Goes-gave_slice 𝓛 3 2 tt (plain (λ _. bool)), tt))))
    f.Key.name code.function (code.unfolded 𝓤 𝓛.H 𝓜 𝓡 wired)
    (λ κs. (rawptr_vals, (uint_vals w32, (shr_slice_vals, (mut_slice_vals, tt)))))
    (λ κs. (rawptr_Tells, (uint_Tells w32, (shr_slice_Tells (named 0) κs.0 (Frame (named_lft 3 1 tt κs)), (mut_slice_Tells (named 2) κs.1.1.0 bool, tt)))))
    (λ κs qs bounds a h are.
    let n = a.1.0 in let s = a.1.1.0 in let t = a.1.1.1.0 in
    let vals : Ptr → List Val × (List Val × (List Val × (List Val × Unit {0}))) = λ p. (rawptr_vals p, (uint_vals w32 n, (shr_slice_vals s, (mut_slice_vals t, tt)))) in
    let y : Ptr → W.Ghost = λ p. ((κs, qs, bounds, (p, a.1), vals p), h) in
    let Frames = (ShrSlice (named 0) κs.0 (Frame (named_lft 3 1 tt κs))).own_val s (shr_slice_vals s) in
    let Answers = (MutSlice (named 2) κs.1.1.0 bool).own_val t (mut_slice_vals t) in
    qed 𝓛 (((‵ (flft κs.0 qs.0) ⊛ ‵ (flft κs.1.0 qs.1.0) ⊛ ‵ (flft κs.1.1.0 qs.1.1.0) ⊛ ‵ ftrue) ⊛ ‵ (RawPtr.own_val a.0 (rawptr_vals a.0)) ⊛ ‵ (u32.own_val n (uint_vals w32 n)) ⊛ ‵ Frames ⊛ ‵ Answers ⊛ ‵ ftrue) ∷ ‵ (lies_at R full_share a.0 h) ∷ []) ∵
    split ! $ move ! (1 ∷ []) $ split ! $ drop ! $ split ! $ move ! (1 ∷ []) $ split ! $ move ! (1 ∷ []) $ split ! $
    -- [the answers; nothing; the frames; the number; the tokens; the filter]
    move ! (5 ∷ []) $ in_a_block ! a.0 (λ p. lies_at R full_share p h) (id⊢ 𝓤 _) (λ b o e.
    regoal ! (λ p. prop (WpFn 𝓤 𝓛.H 𝓣.C 𝓣.Λ code.function (ptr_val p ∷ vint w32 n ∷ slice_val s.ref_ptr (length s.now) ∷ slice_val t.ref_ptr (length t.now) ∷ []) (W.post (y p)))) e refl $
    enter ! _ _ _ _ _ $ alloc_all ! (λ l. pass_all ! refl ((tt, tt), ((tt, record { fits = are.1.0.1 }), ((tt, (tt, (record { fits = are.1.1.0.0.1.0 }, tt))), ((tt, (tt, (record { fits = are.1.1.1.0.0.1.0 }, tt))), tt)))) $
    sets ! (of_opd ! (get ! refl)) refl (tt, tt) $ sets ! (addr ! (through ! refl (stop !))) refl (tt, tt) $
    sets ! (addr ! (from ! (fld ! refl (hop ! (look_in_at ! 4 (sub ! 0 refl (whole !))) (stop !))))) refl (tt, tt) $
    sets ! (agg ! (and_then ! (get ! refl) (and_then ! (get_in ! (fld ! refl (stop !)) (sub ! 1 refl (whole !))) (no_more !)))) refl (tt, (tt, (record { fits = are.1.1.1.0.0.1.0 }, tt))) $
    lft_new ! tt (λ α. let μ : Lft = α ∷ [] in move ! (1 ∷ 0 ∷ []) $
    use2 𝓛 (later ((‵ ((ShrRef (named 0) μ R).own_val (record { ref_ptr = (b, o); now = h }) (vptr b o ∷ [])) ⊛ ‵ (flent μ (part_at R full_share h b o))) ⊛ ‵ (flft μ full_share)))
    (lends_shr 𝓛 R (named 0) μ full_share h b o R.lives (the_row_laws.shares 𝓛 h) ((μ, full_share) ∷ []) (⊑_static μ) (Incl-refl μ)) $ await ! tt $ split ! $ split ! $
    -- [the reference; the right to the filter; the token; the answers; nothing; the frames; the number; the tokens]
    let G = triple_of 𝓛 g.signature (g.spec 𝓛 𝓜.mem 𝓡.returns) in
    let z : G.Ghost = (((μ, κs), (full_share, qs), bounds, (record { ref_ptr = (b, o); now = h }, (n, (s, (t, tt)))), (vptr b o ∷ [], (uint_vals w32 n, (shr_slice_vals s, (mut_slice_vals t, tt))))), tt) in
    move ! (3 ∷ 4 ∷ []) $ join ! $ move ! (4 ∷ []) $ join ! $ move ! (4 ∷ []) $ join ! $ move ! (1 ∷ 0 ∷ []) $ join ! $ move ! (2 ∷ 3 ∷ []) $ join ! $ join ! $
    nothing ! $ move ! (1 ∷ 0 ∷ []) $ use2 𝓛 (raw (G.pre z)) (id⊢ 𝓤 _) $
    calls_at ! (framed 𝓤 𝓛.H 𝓜 𝓣) G (met 𝓤 𝓛 𝓜 𝓡 (code.calls-c_answers::filter_frames::choose_each 𝓡.env wired)) z
    (and_then ! (get ! refl) (and_then ! (get ! refl) (and_then ! (get ! refl) (and_then ! (get ! refl) (no_more !))))) (λ v.
    use1 𝓛 (later (some (λ (r : ℕ). ((‵ (flft μ full_share) ⊛ (‵ (flft κs.0 qs.0) ⊛ ‵ (flft κs.1.0 qs.1.0) ⊛ ‵ (flft κs.1.1.0 qs.1.1.0) ⊛ ‵ ftrue)) ⊛ ‵ (usize.own_val r (v ∷ []))) ⊛
    some (λ (ws : Unit {0} × (Unit {0} × (Unit {0} × (List Bool × Unit {0})))). ‵ (lasts g.ended z.0.0 z.0.3 ws) ⊛ raw (fact 𝓤 (AnswersEach (expression_of h) n s.now t.now ws.1.1.1.0 r)))))) (id⊢ 𝓤 _) $
    await ! tt $ pick ! (λ r. split ! $ split ! $ split ! $ lft_end ! tt $ move ! (0 ∷ 4 ∷ []) $ lent_back ! tt $
    -- [the filter; the tokens; the result; what the call says]
    move ! (3 ∷ []) $ pick ! (λ ws. split ! $ move ! (1 ∷ []) $ heard ! _ (λ says_it. fsplit ! $ move ! (1 ∷ []) $ fsplit ! $ move ! (1 ∷ []) $ fsplit ! $ move ! (1 ∷ []) $ fsplit ! $ fsplit ! $ fsplit ! $
    -- [the last answers; their number; the borrow of them; nothing, four times; the filter; the tokens; the result]
    move ! (1 ∷ []) $ feq_l ! (λ same. join ! $ join ! $ move ! (1 ∷ 0 ∷ []) $ join ! $ move ! (1 ∷ 0 ∷ []) $ join ! $ move ! (1 ∷ 0 ∷ []) $ join ! $
    move ! (3 ∷ []) $ peeks ! usize (Is usize) (shows 𝓛 usize) r (v ∷ []) (λ is.
    lands_as ! refl refl ((uint_Lawful 𝓛 w64).typed r _ is).0 $ returns ! (look_at ! 0 refl) $ free_all ! refl $
    suffices ! _ (ends_at 𝓛 f.ended stayed c (y (block_ptr b o)) v r (tt, (tt, (tt, (ws.1.1.1.0, tt)))) (tt, (tt, (tt, (same, tt))))) $
    move ! (3 ∷ 1 ∷ 0 ∷ []) $ group ! 3 $ frame ! $ says ! says_it $ done !))))))))))
