use Rattle.std.proofs.Common.{inl, inr}
use Rattle.packet_filter.proofs.Carried.{answered}
use Rattle.packet_filter.proofs.filter.Filter.matches_odd.Goals as goal

pub returns-in-Ok : goal.returns-in-Ok
returns-in-Ok c = record { value = answered _ _ _ _ _ _ (inl c.in-Ok.ensures.reads.reads) c.matches.ensures.value }

pub returns-in-Err : goal.returns-in-Err
returns-in-Err c =
    let none = c.matches_nothing.ensures.value in
    record { value = answered _ _ _ _ _ none.0 (inr (c.in-Err.ensures.reads.reads.short, none.1, none.2)) none.3 }
