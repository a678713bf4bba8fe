use Rattle.packet_filter.proofs.Carried.{of_front}
use Rattle.packet_filter.proofs.filter.Filter.matches_frame.Goals as goal

pub returns-in-Some-matches_by_prepared : goal.returns-in-Some-matches_by_prepared
returns-in-Some-matches_by_prepared c = record { value = of_front _ _ _ _ _ _ c.in-Some.ensures.found c.in-Some-matches_by_prepared.ensures.value }
