-- A filter is lent for the call of `chooses`, and comes back.
use Rattle.etherparse_c.proofs.FilterSteps.{List, [], ◌∷◌, length, refl, w32, w64, proved, full_share, id⊢, Lft, Incl-refl, ftrue, flft, flent, named, Val, vint, vptr, Bool, fact, tables, WpFn, ‵, raw, ◌⊛◌, some, later, prop, ◌$◌, ◌∵◌, !, qed, done, move, drop, use1, use2, split, join, pick, await, regoal, suffices, frame, group, enter, of_opd, addr, stop, no_more, and_then, returns, alloc_all, pass_all, free_all, look_at, get, through, sets, lands_as, lft_new, lft_end, lent_back, u8, u32, usize, bool, SliceRefOf, yes, shows, lends_shr, part_at, uint_vals, uint_Tells, bool_Lawful, Ptr, RawPtr, block_ptr, ptr_val, lies_at, in_a_block, rawptr_vals, rawptr_Tells, ShrRef, plain, ShrSlice, slice_val, shr_slice_vals, shr_slice_Tells, nothing, heard, peeks, calls_at, lasts, triple_of, framed, Stays, walk_of, says, stay_dropped, Goes-dropped, ends_at}
use contract.BorrowLft.{⊑_static}
use denote.Laws.{Is}
use Rattle.packet_filter.specs.contracts.filter.Filter.{the_row as R}
use Rattle.packet_filter.proofs.filter.Filter.TheLaws.{the_row_laws}
use Rattle.packet_filter.specs.Program.{expression_of}
use Rattle.c_answers.specs.FilterMatching.{AnswersNumber}
use Rattle.etherparse_c.specs.contracts.filter.etherparse_filter_matches as f
use Rattle.etherparse_c.proofs.filter.etherparse_filter_matches.Statement.{statement}
use Rattle.etherparse_c.proofs.filter.etherparse_filter_matches.Code as code
use Rattle.c_answers.specs.contracts.filter_frames.chooses as g
use Rattle.c_answers.proofs.filter_frames.chooses.Met.{met}

abbrev stayed : Stays f.ended.signature.params f.ended.kept
stayed = (stay_dropped _ yes, (stay_dropped _ yes, (stay_dropped _ yes, (stay_dropped _ yes, tt))))

pub etherparse_filter_matches_spec : {M : Type 1} → statement M
etherparse_filter_matches_spec 𝓤 𝓛 𝓜 𝓡 wired =
    let c = f.clauses 𝓛 𝓜.mem 𝓡.returns in let W = walk_of 𝓛 f.ended stayed c in let 𝓣 = tables 𝓤 𝓛.H 𝓜 𝓡 𝓡.env in
    proved 𝓛 f.ended stayed c 𝓜 𝓡
    (Goes-dropped 𝓛 1 (plain (λ _. RawPtr)) yes (λ κs x w. refl), (Goes-dropped 𝓛 1 (plain (λ _. u32)) yes (λ κs x w. refl), (Goes-dropped 𝓛 1 (SliceRefOf (0 ∷ []) tt (plain (λ _. u8)) (λ _. tt)) yes (λ κs x w. refl), (Goes-dropped 𝓛 1 (plain (λ _. usize)) yes (λ κs x w. refl), tt))))
    f.Key.name code.function (code.unfolded 𝓤 𝓛.H 𝓜 𝓡 wired)
    (λ κs. (rawptr_vals, (uint_vals w32, (shr_slice_vals, (uint_vals w64, tt)))))
    (λ κs. (rawptr_Tells, (uint_Tells w32, (shr_slice_Tells (named 0) κs.0 u8, (uint_Tells w64, tt)))))
    (λ κs qs bounds a h are.
    let κ = κs.0 in let q = qs.0 in let n = a.1.0 in let s = a.1.1.0 in let len = a.1.1.1.0 in
    let vals : Ptr → List Val × (List Val × (List Val × (List Val × Unit {0}))) = λ p. (rawptr_vals p, (uint_vals w32 n, (shr_slice_vals s, (uint_vals w64 len, tt)))) in
    let y : Ptr → W.Ghost = λ p. ((κs, qs, bounds, (p, a.1), vals p), h) in
    let Frame = (ShrSlice (named 0) κ u8).own_val s (shr_slice_vals s) in
    qed 𝓛 (((‵ (flft κ q) ⊛ ‵ ftrue) ⊛ ‵ (RawPtr.own_val a.0 (rawptr_vals a.0)) ⊛ ‵ (u32.own_val n (uint_vals w32 n)) ⊛ ‵ Frame ⊛ ‵ (usize.own_val len (uint_vals w64 len)) ⊛ ‵ ftrue) ∷ ‵ (lies_at R full_share a.0 h) ∷ []) ∵
    split ! $ move ! (1 ∷ []) $ split ! $ drop ! $ split ! $ move ! (1 ∷ []) $ split ! $ move ! (1 ∷ []) $ split ! $
    -- [the length; nothing; the frame; the number; the tokens; the filter]
    move ! (5 ∷ []) $ in_a_block ! a.0 (λ p. lies_at R full_share p h) (id⊢ 𝓤 _) (λ b o e.
    regoal ! (λ p. prop (WpFn 𝓤 𝓛.H 𝓣.C 𝓣.Λ code.function (ptr_val p ∷ vint w32 n ∷ slice_val s.ref_ptr (length s.now) ∷ vint w64 len ∷ []) (W.post (y p)))) e refl $
    enter ! _ _ _ _ _ $ alloc_all ! (λ l. pass_all ! refl ((tt, tt), ((tt, record { fits = are.1.0.1 }), ((tt, (tt, (record { fits = are.1.1.0.0.1.0 }, tt))), ((tt, record { fits = are.1.1.1.0.1 }), tt)))) $
    -- [the filter; the length; nothing; the frame; the number; the tokens]
    sets ! (of_opd ! (get ! refl)) refl (tt, tt) $ sets ! (addr ! (through ! refl (stop !))) refl (tt, tt) $
    lft_new ! tt (λ α. let μ : Lft = α ∷ [] in move ! (1 ∷ 0 ∷ []) $
    use2 𝓛 (later ((‵ ((ShrRef (named 0) μ R).own_val (record { ref_ptr = (b, o); now = h }) (vptr b o ∷ [])) ⊛ ‵ (flent μ (part_at R full_share h b o))) ⊛ ‵ (flft μ full_share)))
    (lends_shr 𝓛 R (named 0) μ full_share h b o R.lives (the_row_laws.shares 𝓛 h) ((μ, full_share) ∷ []) (⊑_static μ) (Incl-refl μ)) $ await ! tt $ split ! $ split ! $
    -- [the reference; the right to the filter; the token; the length; nothing; the frame; the number; the tokens]
    let G = triple_of 𝓛 g.signature (g.spec 𝓛 𝓜.mem 𝓡.returns) in
    let z : G.Ghost = (((μ, (κ, tt)), (full_share, (q, tt)), tt, (record { ref_ptr = (b, o); now = h }, (n, (s, (len, tt)))), (vptr b o ∷ [], (uint_vals w32 n, (shr_slice_vals s, (uint_vals w64 len, tt))))), tt) in
    move ! (3 ∷ 4 ∷ []) $ join ! $ move ! (4 ∷ []) $ join ! $ move ! (4 ∷ []) $ join ! $ move ! (1 ∷ 0 ∷ []) $ join ! $ move ! (2 ∷ 3 ∷ []) $ join ! $ join ! $
    nothing ! $ move ! (1 ∷ 0 ∷ []) $ use2 𝓛 (raw (G.pre z)) (id⊢ 𝓤 _) $
    calls_at ! (framed 𝓤 𝓛.H 𝓜 𝓣) G (met 𝓤 𝓛 𝓜 𝓡 (code.calls-c_answers::filter_frames::chooses 𝓡.env wired)) z
    (and_then ! (get ! refl) (and_then ! (get ! refl) (and_then ! (get ! refl) (and_then ! (get ! refl) (no_more !))))) (λ v.
    use1 𝓛 (later (some (λ (r : Bool). ((‵ (flft μ full_share) ⊛ ‵ (flft κ q) ⊛ ‵ ftrue) ⊛ ‵ (bool.own_val r (v ∷ []))) ⊛
    some (λ (ws : Unit {0} × (Unit {0} × (Unit {0} × (Unit {0} × Unit {0})))). ‵ (lasts g.ended z.0.0 z.0.3 ws) ⊛ raw (fact 𝓤 (AnswersNumber (expression_of h) n s.now len r)))))) (id⊢ 𝓤 _) $
    await ! tt $ pick ! (λ r. split ! $ split ! $ split ! $ lft_end ! tt $ move ! (0 ∷ 4 ∷ []) $ lent_back ! tt $
    -- [the filter; the tokens; the result; what the call says]
    move ! (3 ∷ []) $ pick ! (λ ws. split ! $ move ! (1 ∷ []) $ heard ! _ (λ says_it. drop ! $ move ! (2 ∷ []) $ peeks ! bool (Is bool) (shows 𝓛 bool) r (v ∷ []) (λ is.
    lands_as ! refl refl ((bool_Lawful 𝓛).typed r _ is).0 $ returns ! (look_at ! 0 refl) $ free_all ! refl $
    suffices ! _ (ends_at 𝓛 f.ended stayed c (y (block_ptr b o)) v r (tt, (tt, (tt, (tt, tt)))) (tt, (tt, (tt, (tt, tt))))) $
    nothing ! $ nothing ! $ join ! $ nothing ! $ join ! $ nothing ! $ join ! $ nothing ! $ join ! $ move ! (3 ∷ 0 ∷ 1 ∷ []) $ group ! 3 $ frame ! $ says ! says_it $ done !)))))))))
