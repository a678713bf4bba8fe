-- The names that the walks of this crate cite.
pub use Rattle.std.proofs.Common.{◌≡◌, ℕ, List, [], ◌∷◌, refl, sym, ap, ◌∙◌, ◌*◌, ◌^◌, ◌<◌, ◌≤◌, ◌++◌, length, subst, arith, w64, MutBor}
pub use Rattle.std.proofs.VecSteps.Shapes.{after}
pub use Rattle.std.proofs.raw_atomic.Walks.{proved}
pub use base.Fml.{Fml, GName, ftrue, fsep, flft, feq, fat, froom, flent, fauth}
pub use base.Fraction.{full_share}
pub use base.Logic.{ent, sep, id⊢, emp}
pub use borrow.Table.OneValue.{part_in}
pub use contract.Monad.{fact, fact_i}
pub use contract.Running.{tables}
pub use denote.Array.{Array}
pub use denote.ArrayMemory.{Array-apart}
pub use denote.Builtin.{u64, usize, u8}
pub use denote.Exit.{no, yes}
pub use denote.Follow.{follows, Part, lends_Part}
pub use denote.Index.{row, whole_in}
pub use denote.Laws.{shows}
pub use denote.Lend.{Held, lends_slice}
pub use denote.Memory.{cell_at, mem, part_at, lone}
pub use denote.Plain.{uint_Makes, uint_vals, uint_Tells}
pub use denote.RattleType.{RattleType}
pub use denote.RawPtr.{Ptr, block_ptr, lies_at, in_a_block, RawPtr, rawptr_vals, rawptr_Tells}
pub use denote.Ref.{MutRef, MutBor, mut_vals, mut_Tells}
pub use denote.Signature.{plain, mut_ref_to}
pub use denote.Slice.{MutSlice, slice_val}
pub use denote.Steps.{nothing, opens, peeks, owned, heard}
pub use denote.Struct.Owning.{shape, to}
pub use denote.Struct.Struct.{Struct}
pub use denote.Triple.Call.{calls_at}
pub use denote.Triple.Clauses.{lasts}
pub use denote.Triple.Entry.{on_entry}
pub use denote.Triple.Spec.{triple_of}
pub use denote.Triple.Table.{framed}
pub use denote.Triple.Walked.{says, Stays, stay_dropped, Goes-spent_ref, walk_of, ends_at, Goes-dropped}
pub use mir.Raw.{raw as bare}
pub use mir.Syntax.{named, static}
pub use mir.Val.{Val, vptr, vunit, vint}
pub use prog.Wp.{WpFn}
pub use seplogic.Ra.Ura.{Ura}
pub use types.ByLocal.{alloc_all, pass_all, free_all, look_at, get, through, sets, sets_last, env, lands_as}
pub use types.Kit.{‵, raw, ◌⊛◌, some, later, at_ret, ◌$◌, ◌∵◌, !, qed, done, move, keep, use1, split, split3, join, pick, await, fsplit, fsplit3, fjoin, fpack, rewrite, suffices, frame, group, Goal, prop, drop, use0, use2, feq_i, feq_l, regoal}
pub use types.Logic.{Logic, sem}
pub use types.Part.{whole, sub, look_in, agg}
pub use types.Run.{enter, of_opd, addr, load, stop, fld, first, blocks, exec, returns, unit_lit, and_then, no_more, assigns, init}
pub use types.SemTy.{cells}
