-- The names that the proofs of exports with a raw pointer cite.
pub use Rattle.std.proofs.Common.{ℕ, List, [], ◌∷◌, length, refl, w32, w64, Bool}
pub use Rattle.std.proofs.raw_atomic.Walks.{proved}
pub use base.Fraction.{full_share}
pub use base.Logic.{id⊢}
pub use base.Fml.{Lft, Incl-refl, ftrue, flft, flent}
pub use mir.Syntax.{named}
pub use mir.Val.{Val, vint, vptr}
pub use contract.Monad.{fact}
pub use contract.Running.{tables}
pub use prog.Wp.{WpFn}
pub use types.Kit.{‵, raw, ◌⊛◌, some, later, prop, ◌$◌, ◌∵◌, !, qed, done, move, drop, use1, use2, use3, split, join, fsplit, feq_l, pick, await, regoal, suffices, frame, group}
pub use types.Run.{enter, of_opd, addr, stop, no_more, and_then, returns}
pub use types.ByLocal.{alloc_all, pass_all, free_all, look_at, get, through, sets, lands_as}
pub use types.Tokens.{lft_new, lft_end, lent_back}
pub use denote.Builtin.{u8, u32, usize, bool, SliceRefOf}
pub use denote.Exit.{yes}
pub use denote.Laws.{shows}
pub use denote.Lend.{lends_shr}
pub use denote.Memory.{part_at}
pub use denote.Plain.{uint_vals, uint_Tells, bool_Lawful}
pub use denote.RawPtr.{Ptr, RawPtr, block_ptr, ptr_val, lies_at, in_a_block, rawptr_vals, rawptr_Tells}
pub use denote.Ref.{ShrRef}
pub use denote.Signature.{plain}
pub use denote.Slice.{ShrSlice, slice_val, shr_slice_vals, shr_slice_Tells}
pub use denote.Steps.{nothing, heard, peeks}
pub use denote.Triple.Call.{calls_at}
pub use denote.Triple.Clauses.{lasts}
pub use denote.Triple.Spec.{triple_of}
pub use denote.Triple.Table.{framed}
pub use denote.Triple.Walked.{Stays, walk_of, says, stay_dropped, Goes-dropped, ends_at}
