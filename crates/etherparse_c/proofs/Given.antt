-- A filter that chooses nothing, and then the filter of a text in its place.
use Rattle.std.proofs.Common.{ℕ, Bool, List, subst, sym}
use Rattle.packet_filter.specs.declared.filter.Step.{Step}
use Rattle.c_answers.specs.FilterReading.{ChoosesNothing, GivesFilter, PutsFilter}
use Rattle.c_answers.specs.declared.filter_refusal.FilterRefusal.{FilterRefusal}

pub given : (text : List ℕ) (before filter : List Step) (refusal : FilterRefusal) (is_read : Bool) → ChoosesNothing before → PutsFilter text before filter refusal is_read
    → GivesFilter text filter refusal is_read
given text before filter refusal is_read none puts = record { reads = puts.reads; nothing = λ no. subst ChoosesNothing (sym (puts.stays no)) none }
