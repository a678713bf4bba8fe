-- `etherparse_defrag_slot_new` meets its contract: a walk of its MIR, by hand.
use Rattle.etherparse_c.proofs.DefragSteps.{◌≡◌, ℕ, ◌*◌, ◌^◌, ◌<◌, ◌≤◌, ◌++◌, List, [], ◌∷◌, length, refl, sym, subst, arith, w64, MutBor, proved, full_share, emp, id⊢, GName, ftrue, feq, fsep, fat, flent, static, bare, RattleType, vunit, vint, fact, fact_i, tables, WpFn, Goal, ‵, raw, prop, ◌⊛◌, some, later, ◌$◌, ◌∵◌, !, qed, done, move, drop, use0, use1, use2, split, join, pick, await, fsplit, feq_i, feq_l, rewrite, regoal, suffices, group, agg, enter, of_opd, unit_lit, stop, and_then, no_more, assigns, init, returns, cells, alloc_all, pass_all, free_all, look_at, get, through, sets, lands_as, Array, Array-apart, u8, usize, yes, row, whole_in, Held, lends_slice, mem, lone, uint_vals, uint_Tells, Ptr, RawPtr, block_ptr, lies_at, in_a_block, rawptr_vals, rawptr_Tells, plain, MutSlice, slice_val, nothing, heard, peeks, shows, part_in, calls_at, lasts, on_entry, triple_of, framed, Stays, stay_dropped, Goes-dropped, walk_of, ends_at}
use Rattle.packet_reassembly.specs.contracts.ip_defrag_pool.IpDefragSlot.{the_row}
use Rattle.packet_reassembly.proofs.ip_defrag_pool.IpDefragSlot.TheLaws.{the_row_laws}
use Rattle.etherparse_c.specs.DefragMemory.{HasRoomForSlot, any_lifetime, for_good, slot_row as T}
use Rattle.etherparse_c.specs.contracts.defrag_memory.etherparse_defrag_slot_new as f
use Rattle.etherparse_c.proofs.defrag_memory.etherparse_defrag_slot_new.Statement.{statement}
use Rattle.etherparse_c.proofs.defrag_memory.etherparse_defrag_slot_new.Code as code
use Rattle.packet_reassembly.specs.Pool.{no_slot}
use Rattle.etherparse_c.specs.contracts.defrag_memory.slot_over as g
use Rattle.etherparse_c.proofs.defrag_memory.slot_over.Met.{met}

abbrev room_row : RattleType
room_row = the_row any_lifetime

abbrev stayed : Stays f.ended.signature.params f.ended.kept
stayed = (stay_dropped _ yes, (stay_dropped _ yes, (stay_dropped _ yes, tt)))

pub etherparse_defrag_slot_new_spec : {M : Type 1} → statement M
etherparse_defrag_slot_new_spec 𝓤 𝓛 𝓜 𝓡 wired =
    let c = f.clauses 𝓛 𝓜.mem 𝓡.returns in let W = walk_of 𝓛 f.ended stayed c in let 𝓣 = tables 𝓤 𝓛.H 𝓜 𝓡 𝓡.env in
    let goes = Goes-dropped 𝓛 0 (plain (λ _. RawPtr)) yes (λ κs x w. refl) in
    proved 𝓛 f.ended stayed c 𝓜 𝓡 (goes, (goes, (Goes-dropped 𝓛 0 (plain (λ _. usize)) yes (λ κs x w. refl), tt)))
    f.Key.name code.function (code.unfolded 𝓤 𝓛.H 𝓜 𝓡 wired)
    (λ κs. (rawptr_vals, (rawptr_vals, (uint_vals w64, tt)))) (λ κs. (rawptr_Tells, (rawptr_Tells, (uint_Tells w64, tt)))) (λ κs qs bounds a xs are.
    let at = a.0 in let memory = a.1.0 in let n = a.1.1.0 in
    let y : Ptr → Ptr → W.Ghost = λ p m. ((κs, qs, bounds, (p, (m, (n, tt))), (rawptr_vals p, (rawptr_vals m, (uint_vals w64 n, tt)))), xs) in
    let Runs : Ptr → Ptr → Goal 𝓤 𝓛.H = λ p m. prop (WpFn 𝓤 𝓛.H 𝓣.C 𝓣.Λ code.function (rawptr_vals p ++ (rawptr_vals m ++ (vint w64 n ∷ []))) (W.post (y p m))) in
    qed 𝓛 (raw (on_entry 𝓛 f.signature κs qs a (y at memory).0.4) ∷ raw (fact 𝓤 (75007 ≤ n)) ∷ raw (fact 𝓤 (n < 2 ^ 63)) ∷ ‵ (fsep (HasRoomForSlot at) (lies_at (Array u8 n) full_share memory xs)) ∷ []) ∵
    drop ! $ heard ! _ (λ enough. heard ! _ (λ low. fsplit ! $
    in_a_block ! at (λ p. HasRoomForSlot p) (id⊢ 𝓤 _) (λ b o e. regoal ! (λ p. Runs p memory) e refl $
    move ! (1 ∷ []) $ in_a_block ! memory (λ p. lies_at (Array u8 n) full_share p xs) (id⊢ 𝓤 _) (λ b' o' e'. regoal ! (λ m. Runs (block_ptr b o) m) e' refl $
    use1 𝓛 (‵ (fsep (feq ℕ (length xs) n) (row u8 full_share xs b' o'))) (Array-apart 𝓛 u8 full_share tt n xs b' o') $ fsplit ! $ feq_l ! (λ len_is.
    use1 𝓛 (‵ (cells (mem u8) xs b' o')) (whole_in 𝓛 u8 xs b' o') $
    let fits : n < 2 ^ 64 = omega arith in
    let roomy : length xs < 2 ^ 64 = subst (λ (m : ℕ). m < 2 ^ 64) (sym len_is) fits in
    let fitting : length xs * 1 < 2 ^ 63 = subst (λ (m : ℕ). m * 1 < 2 ^ 63) (sym len_is) (omega arith) in
    enter ! _ _ _ _ _ $ alloc_all ! (λ l. pass_all ! refl ((tt, tt), ((tt, tt), ((tt, record { fits = fits }), tt))) $
    sets ! (of_opd ! (get ! refl)) refl (tt, tt) $
    sets ! (agg ! (and_then ! (get ! refl) (and_then ! (get ! refl) (no_more !)))) refl (tt, (tt, (record { fits = fits }, tt))) $
    let s : GName → MutBor (List ℕ) = λ γ. record { ref_ptr = (b', o'); ghost_name = γ; now = xs } in
    use1 𝓛 (later (some (λ (γ : GName). ‵ ((MutSlice static [] u8).own_val (s γ) (slice_val (b', o') (length xs) ∷ [])) ⊛ ‵ (flent [] (Held u8 (length xs) b' o' γ)))))
    (lends_slice 𝓛 u8 static [] xs b' o' (roomy, fitting)) $ await ! tt $ pick ! (λ γ. split ! $ move ! (1 ∷ []) $ drop ! $
    rewrite ! 0 (λ (m : ℕ). ‵ ((MutSlice static [] u8).own_val (s γ) (slice_val (b', o') m ∷ []))) len_is refl $
    let G = triple_of 𝓛 g.signature (g.spec 𝓛 𝓜.mem 𝓡.returns) in
    let z : G.Ghost = ((tt, tt, tt, (s γ, tt), (slice_val (b', o') n ∷ [], tt)), tt) in
    nothing ! $ move ! (1 ∷ 0 ∷ []) $ join ! $ nothing ! $ join ! $
    use0 𝓛 (raw (fact 𝓤 (75007 ≤ length xs))) (fact_i 𝓤 (75007 ≤ length xs) (emp 𝓤) (subst (λ (m : ℕ). 75007 ≤ m) (sym len_is) enough)) $ move ! (1 ∷ 0 ∷ []) $
    use2 𝓛 (raw (G.pre z)) (id⊢ 𝓤 _) $
    calls_at ! (framed 𝓤 𝓛.H 𝓜 (tables 𝓤 𝓛.H 𝓜 𝓡 𝓡.env)) G (met 𝓤 𝓛 𝓜 𝓡 (code.calls-etherparse_c::defrag_memory::slot_over 𝓡.env wired)) z
    (and_then ! (get ! refl) (no_more !)) (λ v.
    use1 𝓛 (later (some (λ (r : T.Denot). (‵ ftrue ⊛ ‵ (T.own_val r (v ∷ []))) ⊛ some (λ (ws : Unit {0} × Unit {0}). ‵ (lasts g.ended z.0.0 z.0.3 ws) ⊛ raw (fact 𝓤 (r ≡ no_slot)))))) (id⊢ 𝓤 _) $
    await ! tt $ pick ! (λ r. split ! $ split ! $ drop ! $ move ! (1 ∷ []) $ pick ! (λ ws. split ! $ drop ! $ heard ! _ (λ is_none.
    rewrite ! 0 (λ (k : T.Denot). ‵ (T.own_val k (v ∷ []))) is_none refl $
    peeks ! T _ (shows 𝓛 T) no_slot (v ∷ []) (λ is_one.
    let typed = ((the_row_laws for_good).lawful 𝓛).typed no_slot _ is_one in
    lands_as ! refl refl typed.0 $
    assigns ! (of_opd ! (get ! refl)) (through ! refl (stop !)) (init ! 1 refl typed.0) $
    sets ! (of_opd ! (unit_lit !)) refl (tt, tt) $
    returns ! (look_at ! 0 refl) $ free_all ! refl $
    move ! (1 ∷ 0 ∷ []) $ use1 𝓛 (‵ (fat full_share (bare (lone T.mir)) b o v)) (𝓛.laws.at_raw full_share (lone (room_row).mir) b o v) $
    use1 𝓛 (‵ (fat full_share (lone T.mir) b o v)) (𝓛.laws.raw_at full_share (lone T.mir) b o v) $ use2 𝓛 (‵ (lies_at T full_share (block_ptr b o) no_slot)) (part_in 𝓛 T refl full_share no_slot b o v) $
    suffices ! _ (ends_at 𝓛 f.ended stayed c (y (block_ptr b o) (block_ptr b' o')) vunit tt (tt, (tt, (tt, tt))) (tt, (tt, (tt, tt)))) $
    feq_i ! _ (vunit ∷ []) _ refl $ nothing ! $ nothing ! $ join ! $ nothing ! $ join ! $ nothing ! $ join ! $ nothing ! $ group ! 3 $ done !)))))))))))))
