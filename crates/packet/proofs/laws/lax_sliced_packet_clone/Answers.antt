use Rattle.std.proofs.Common.{Err, IsOk, Ok, Result, rules}
use Rattle.std.specs.Result.{MatchResult}
use Rattle.packet.proofs.laws.lax_sliced_packet_clone.Goals as goal

no_error : {T E : Type 0} (r : Result T E) (P : T → Type 0) (N : Type 0) → MatchResult r P (λ _. ¬ N) → N → IsOk r
no_error (Ok x) P N h n = search rules
no_error (Err e) P N h n = absurd (h n)

pub returns-clause-never_fails : goal.returns-clause-never_fails
returns-clause-never_fails c = no_error c.clone.result _ _ c.clone.ensures.cases (search rules)
