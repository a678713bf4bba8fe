-- A filter of nothing is put into the memory; then the memory is lent for the call of `read`, and comes back.
use Rattle.etherparse_c.proofs.FilterSteps.{ℕ, List, [], ◌∷◌, length, refl, proved, full_share, id⊢, Lft, ftrue, flft, flent, named, Val, vptr, Bool, fact, tables, WpFn, ‵, raw, ◌⊛◌, some, later, prop, ◌$◌, ◌∵◌, !, qed, done, move, drop, use1, use2, use3, split, join, fsplit, pick, await, regoal, suffices, frame, group, enter, of_opd, addr, stop, no_more, and_then, returns, alloc_all, pass_all, free_all, look_at, get, through, sets, lands_as, lft_new, lft_end, u8, bool, SliceRefOf, yes, shows, part_at, bool_Lawful, Ptr, RawPtr, block_ptr, ptr_val, lies_at, in_a_block, rawptr_vals, rawptr_Tells, plain, ShrSlice, slice_val, shr_slice_vals, shr_slice_Tells, nothing, heard, peeks, calls_at, lasts, triple_of, framed, Stays, walk_of, says, stay_dropped, Goes-dropped, ends_at}
use base.Logic.{sep}
use borrow.Table.OneValue.{part_in}
use denote.Laws.{Is}
use denote.Lend.{lends_ref, ref_back}
use denote.Memory.{mem}
use denote.RawPtr.{room_at}
use denote.Ref.{MutRef, mut_vals, mut_Tells}
use denote.Triple.Walked.{gave_ref, Goes-gave_ref}
use types.Kit.{show}
use types.Logic.{sem}
use types.Run.{assigns, init}
use types.SemTy.{Body}
use Rattle.packet_filter.specs.contracts.filter.Filter.{the_row as R}
use Rattle.packet_filter.specs.declared.filter.Step.{Step}
use Rattle.packet_filter.proofs.filter.Filter.TheLaws.{the_row_laws}
use Rattle.c_answers.specs.contracts.filter_refusal.FilterRefusal.{the_row as Refusal}
use Rattle.c_answers.specs.FilterReading.{ChoosesNothing, GivesFilter, PutsFilter}
use Rattle.etherparse_c.specs.contracts.filter.etherparse_filter_from_text as f
use Rattle.etherparse_c.proofs.Given.{given}
use Rattle.etherparse_c.proofs.filter.etherparse_filter_from_text.Statement.{statement}
use Rattle.etherparse_c.proofs.filter.etherparse_filter_from_text.Code as code
use Rattle.c_answers.specs.contracts.filter_reading.read as g
use Rattle.c_answers.proofs.filter_reading.read.Met.{met}
use Rattle.packet_filter.specs.contracts.filter.Filter.nothing as makes
use Rattle.packet_filter.proofs.filter.Filter.nothing.Met as makes_met

abbrev stayed : Stays f.ended.signature.params f.ended.kept
stayed = (stay_dropped _ yes, (stay_dropped _ yes, (gave_ref (1 ∷ []) tt (plain (λ _. Refusal)), tt)))

pub etherparse_filter_from_text_spec : {M : Type 1} → statement M
etherparse_filter_from_text_spec 𝓤 𝓛 𝓜 𝓡 wired =
    let c = f.clauses 𝓛 𝓜.mem 𝓡.returns in let W = walk_of 𝓛 f.ended stayed c in let 𝓣 = tables 𝓤 𝓛.H 𝓜 𝓡 𝓡.env in
    proved 𝓛 f.ended stayed c 𝓜 𝓡
    (Goes-dropped 𝓛 2 (SliceRefOf (0 ∷ []) tt (plain (λ _. u8)) (λ _. tt)) yes (λ κs x w. refl), (Goes-dropped 𝓛 2 (plain (λ _. RawPtr)) yes (λ κs x w. refl), (Goes-gave_ref 𝓛 2 1 tt (plain (λ _. Refusal)), tt)))
    f.Key.name code.function (code.unfolded 𝓤 𝓛.H 𝓜 𝓡 wired)
    (λ κs. (shr_slice_vals, (rawptr_vals, (mut_vals, tt))))
    (λ κs. (shr_slice_Tells (named 0) κs.0 u8, (rawptr_Tells, (mut_Tells (named 1) κs.1.0 Refusal, tt))))
    (λ κs qs bounds a h are.
    let s = a.0 in let t = a.1.1.0 in
    let vals : Ptr → List Val × (List Val × (List Val × Unit {0})) = λ p. (shr_slice_vals s, (rawptr_vals p, (mut_vals t, tt))) in
    let y : Ptr → W.Ghost = λ p. ((κs, qs, bounds, (s, (p, a.1.1)), vals p), h) in
    let Text = (ShrSlice (named 0) κs.0 u8).own_val s (shr_slice_vals s) in
    let Out = (MutRef (named 1) κs.1.0 Refusal).own_val t (mut_vals t) in
    qed 𝓛 (((‵ (flft κs.0 qs.0) ⊛ ‵ (flft κs.1.0 qs.1.0) ⊛ ‵ ftrue) ⊛ ‵ Text ⊛ ‵ (RawPtr.own_val a.1.0 (rawptr_vals a.1.0)) ⊛ ‵ Out ⊛ ‵ ftrue) ∷ ‵ (room_at R a.1.0) ∷ []) ∵
    split ! $ move ! (1 ∷ []) $ split ! $ move ! (1 ∷ []) $ split ! $ drop ! $ split ! $
    -- [the refusal; nothing; the text; the tokens; the room]
    move ! (4 ∷ []) $ in_a_block ! a.1.0 (λ p. room_at R p) (id⊢ 𝓤 _) (λ b o e.
    regoal ! (λ p. prop (WpFn 𝓤 𝓛.H 𝓣.C 𝓣.Λ code.function (slice_val s.ref_ptr (length s.now) ∷ ptr_val p ∷ vptr t.ref_ptr.0 t.ref_ptr.1 ∷ []) (W.post (y p)))) e refl $
    enter ! _ _ _ _ _ $ alloc_all ! (λ l. pass_all ! refl ((tt, (tt, (record { fits = are.0.0.1.0 }, tt))), ((tt, tt), ((tt, tt), tt))) $
    sets ! (of_opd ! (get ! refl)) refl (tt, tt) $
    -- Filter::nothing()
    let N = triple_of 𝓛 makes.signature (makes.spec 𝓛 𝓜.mem 𝓡.returns) in
    let zn : N.Ghost = ((tt, tt, tt, tt, tt), tt) in
    nothing ! $ nothing ! $ join ! $ nothing ! $ move ! (1 ∷ 0 ∷ []) $ use2 𝓛 (raw (N.pre zn)) (id⊢ 𝓤 _) $
    calls_at ! (framed 𝓤 𝓛.H 𝓜 𝓣) N (makes_met.met 𝓤 𝓛 𝓜 𝓡 (code.calls-packet_filter::filter::Filter::nothing 𝓡.env wired)) zn (no_more !) (λ v₀.
    use1 𝓛 (later (some (λ (f₀ : List Step). (‵ ftrue ⊛ ‵ (R.own_val f₀ (v₀ ∷ []))) ⊛ some (λ (ws : Unit {0}). ‵ (lasts makes.ended tt tt ws) ⊛ raw (fact 𝓤 (ChoosesNothing f₀)))))) (id⊢ 𝓤 _) $
    await ! tt $ pick ! (λ f₀. split ! $ split ! $ drop ! $ move ! (1 ∷ []) $ pick ! (λ us. split ! $ drop ! $ heard ! _ (λ none.
    -- [the filter; the room; the refusal; nothing; the text; the tokens]
    peeks ! R (Is R) (shows 𝓛 R) f₀ (v₀ ∷ []) (λ is₀. let good = ((the_row_laws.lawful 𝓛).typed f₀ _ is₀).0 in
    lands_as ! refl refl good $ assigns ! (of_opd ! (get ! refl)) (through ! refl (stop !)) (init ! 1 refl good) $
    move ! (1 ∷ 0 ∷ []) $ use2 𝓛 (‵ (part_at R full_share f₀ b o)) (part_in 𝓛 R refl full_share f₀ b o v₀) $
    sets ! (addr ! (through ! refl (stop !))) refl (tt, tt) $ sets ! (addr ! (through ! refl (stop !))) refl (tt, tt) $
    lft_new ! tt (λ α. let μ : Lft = α ∷ [] in move ! (1 ∷ []) $
    use1 𝓛 (later (some (λ (γ : ℕ). ‵ ((MutRef (named 1) μ R).own_val (record { ref_ptr = (b, o); ghost_name = γ; now = f₀ }) (vptr b o ∷ [])) ⊛ ‵ (flent μ (Body (mem R) b o γ)))))
    (lends_ref 𝓛 R (named 1) μ f₀ b o) $ await ! tt $ pick ! (λ γ. split ! $
    -- [the reference; the right to the filter; the token; the refusal; nothing; the text; the tokens]
    let G = triple_of 𝓛 g.signature (g.spec 𝓛 𝓜.mem 𝓡.returns) in
    let z : G.Ghost = (((κs.0, (μ, κs.1)), (qs.0, (full_share, qs.1)), tt, (s, (record { ref_ptr = (b, o); ghost_name = γ; now = f₀ }, (t, tt))), (shr_slice_vals s, (vptr b o ∷ [], (mut_vals t, tt)))), tt) in
    move ! (3 ∷ 4 ∷ []) $ join ! $ move ! (1 ∷ 0 ∷ []) $ join ! $ move ! (3 ∷ 0 ∷ []) $ join ! $ move ! (3 ∷ []) $ split ! $ move ! (4 ∷ 1 ∷ []) $ join ! $ move ! (1 ∷ 0 ∷ []) $ join ! $ join ! $
    nothing ! $ move ! (1 ∷ 0 ∷ []) $ use2 𝓛 (raw (G.pre z)) (id⊢ 𝓤 _) $
    calls_at ! (framed 𝓤 𝓛.H 𝓜 𝓣) G (met 𝓤 𝓛 𝓜 𝓡 (code.calls-c_answers::filter_reading::read 𝓡.env wired)) z
    (and_then ! (get ! refl) (and_then ! (get ! refl) (and_then ! (get ! refl) (no_more !)))) (λ v.
    use1 𝓛 (later (some (λ (r : Bool). ((‵ (flft κs.0 qs.0) ⊛ (‵ (flft μ full_share) ⊛ (‵ (flft κs.1.0 qs.1.0) ⊛ ‵ ftrue))) ⊛ ‵ (bool.own_val r (v ∷ []))) ⊛
    some (λ (ws : Unit {0} × (List Step × (Refusal.Denot × Unit {0}))). ‵ (lasts g.ended z.0.0 z.0.3 ws) ⊛ raw (fact 𝓤 (PutsFilter s.now f₀ ws.1.0 ws.1.1.0 r)))))) (id⊢ 𝓤 _) $
    await ! tt $ pick ! (λ r. split ! $ split ! $ split ! $ move ! (1 ∷ []) $ split ! $ lft_end ! tt $
    -- [the lifetime is over; two tokens; the result; what the call says; the right to the filter]
    move ! (4 ∷ []) $ pick ! (λ ws. split ! $ move ! (1 ∷ []) $ heard ! _ (λ says_it. fsplit ! $ drop ! $ fsplit ! $ fsplit ! $
    -- [the filter's last value; its borrow; what is left of the refusal; the lifetime is over; two tokens; the result; the right]
    move ! (3 ∷ 7 ∷ 0 ∷ []) $ use3 𝓛 (later (‵ (part_at R full_share ws.1.0 b o))) (ref_back 𝓛 R μ γ ws.1.0 b o) $ await ! tt $ move ! (1 ∷ []) $ drop ! $
    move ! (4 ∷ []) $ peeks ! bool (Is bool) (shows 𝓛 bool) r (v ∷ []) (λ is.
    lands_as ! refl refl ((bool_Lawful 𝓛).typed r _ is).0 $ returns ! (look_at ! 0 refl) $ free_all ! refl $
    suffices ! _ (ends_at 𝓛 f.ended stayed c (y (block_ptr b o)) v r (tt, (tt, (ws.1.1.0, tt))) (tt, (tt, (tt, tt)))) $
    -- [the result; the filter; what is left of the refusal; two tokens]
    move ! (2 ∷ []) $ nothing ! $ join ! $ nothing ! $ join ! $ move ! (4 ∷ 3 ∷ []) $ join ! $ move ! (0 ∷ 1 ∷ 2 ∷ []) $ group ! 3 $ frame ! $
    show ! (λ (x : List Step). sep 𝓤 (sem 𝓛 (lies_at R full_share (block_ptr b o) x)) (fact 𝓤 (GivesFilter s.now x ws.1.1.0 r))) ws.1.0 $
    says ! (given s.now f₀ ws.1.0 ws.1.1.0 r none says_it) $ done !)))))))))))))))
